use Rattle.fields.specs.Held.{line_fields}
use Rattle.reading.specs.declared.kinds.Kind.TheVariants.{Between}
use Rattle.lines.proofs.Closing.{took_closed}
use Rattle.lines.proofs.Entries.{between_stop, between_goes, took_up, took_as}
use Rattle.lines.proofs.lawful.LawfulTables.between_line.Goals as goal

pub returns-in_err-constraint : goal.returns-in_err-constraint
returns-in_err-constraint c =
    let t = c.args.self.now.tables in
    took_up _ t _ _ c.from_residual.ensures (between_stop t c.args.line.now c.in_err-constraint.ensures) c.args.self.now.ok

pub invariant_of-self : goal.invariant_of-self
invariant_of-self c =
    let t = c.args.self.now.tables in
    let took = took_as c.constrain.result t c.constrain.new.self (between_goes t c.args.line.now c.in_ok-constraint.ensures) c.constrain.ensures in
    record { ok = took_closed Between (line_fields c.args.line.now) c.constrain.result t c.constrain.new.self c.args.self.now.ok took }

pub returns : goal.returns
returns c = took_as _ c.args.self.now.tables _ (between_goes c.args.self.now.tables c.args.line.now c.in_ok-constraint.ensures) c.constrain.ensures

use Rattle.fields.specs.Held.{line_fields}
use Rattle.theory.specs.declared.Constraint.TheVariants as made
use Rattle.reading.specs.declared.kinds.Kind.TheVariants.{Before}
use Rattle.lines.proofs.Closing.{took_closed}
use Rattle.lines.proofs.Entries.{position-stop, position_goes, took_up, took_as}
use Rattle.lines.proofs.lawful.LawfulTables.before_line.Goals as goal

pub returns-in_err-position : goal.returns-in_err-position
returns-in_err-position c =
    let t = c.args.self.now.tables in
    took_up _ t _ _ c.from_residual.ensures (position-stop t c.args.line.now made.Before c.in_err-position.ensures) c.args.self.now.ok

pub invariant_of-self : goal.invariant_of-self
invariant_of-self c =
    let t = c.args.self.now.tables in
    let took = took_as c.constrain.result t c.constrain.new.self (position_goes t c.args.line.now made.Before c.in_ok-position.ensures) c.constrain.ensures in
    record { ok = took_closed Before (line_fields c.args.line.now) c.constrain.result t c.constrain.new.self c.args.self.now.ok took }

pub returns : goal.returns
returns c = took_as _ c.args.self.now.tables _ (position_goes c.args.self.now.tables c.args.line.now made.Before c.in_ok-position.ensures) c.constrain.ensures

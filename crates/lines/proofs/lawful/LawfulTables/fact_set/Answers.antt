use Rattle.std.proofs.Common.{◌≡◌, ℕ, Some, Ok, Option, arith, sym, ◌∙◌}
use Rattle.std.specs.Option.{ok_or}
use Rattle.reading.specs.Tables.{fact_of}
use Rattle.reading.specs.declared.faults.DomainFault.{DomainFault}
use Rattle.reading.proofs.Lookups.{index_names}
use Rattle.lines.specs.Closes.{meant}
use Rattle.lines.proofs.Closing.{closed_parts}
use Rattle.lines.proofs.lawful.LawfulTables.fact_set.Goals as goal

is_found : (o : Option ℕ) (n : ℕ) (e : DomainFault) → Ok n ≡ ok_or o e → o ≡ Some n
is_found o n e h = grind arith

pub with_fact-set-requires : goal.with_fact-set-requires
with_fact-set-requires c =
    let t = meant c.args.self.now.tables in
    let f : fact_of t c.in-Some.name.now ≡ Some c.in_ok-f.f = sym c.fact.ensures ∙ is_found _ _ _ c.in_ok-f.ensures.value in
    omega (arith, (index_names _ t.facts _ f).0, (closed_parts c.args.self.now.tables c.args.self.now.ok).facts)

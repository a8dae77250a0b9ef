use Rattle.std.proofs.Common.{◌≡◌}
use Rattle.fields.specs.Held.{line_fields, pieces_left}
use Rattle.reading.specs.Lines.{fact_set, taking, with_fact}
use Rattle.reading.specs.Tables.{fact_of}
use Rattle.reading.specs.declared.faults.DomainFault.TheVariants.{Undeclared}
use Rattle.lines.specs.Closes.{meant}
use Rattle.lines.proofs.lawful.LawfulTables.fact_set.Given as goal

abbrev pub invariant-loop-name : goal.invariant-loop-name
invariant-loop-name l =
    (goal.iterator-loop-name).can_next l.name-iterator × (goal.iterator-loop-name).is_finite l.name-iterator
    × (fact_set (meant l.self.tables) (line_fields l.line) l.k ≡ taking with_fact (fact_of (meant l.self.tables)) (Undeclared l.k) l.set (pieces_left l.name-iterator))

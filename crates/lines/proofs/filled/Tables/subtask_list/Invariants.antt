use Rattle.std.proofs.Common.{◌≡◌, ◌+◌, ◌≤◌, length}
use Rattle.fields.specs.Held.{line_fields, pieces_left}
use Rattle.reading.specs.Lines.{subtask_list, taking, with_last}
use Rattle.reading.specs.Tables.{symbol_of}
use Rattle.reading.specs.declared.faults.DomainFault.TheVariants.{Undeclared}
use Rattle.tables.specs.Held.{few_items}
use Rattle.lines.specs.Closes.{meant}
use Rattle.lines.proofs.filled.Tables.subtask_list.Given as goal

abbrev pub invariant-loop-name : goal.invariant-loop-name
invariant-loop-name l =
    (goal.iterator-loop-name).can_next l.name-iterator × (goal.iterator-loop-name).is_finite l.name-iterator
    × (subtask_list (meant l.self) (line_fields l.line) l.k ≡ taking with_last (symbol_of (meant l.self)) (Undeclared l.k) (few_items l.subtasks) (pieces_left l.name-iterator))
    × (length (few_items l.subtasks) + length (pieces_left l.name-iterator) ≤ 4)

use Rattle.std.proofs.Common.{◌≡◌, drop, map}
use Rattle.listing.specs.Listing.{subtask_name, subtask_list}
use Rattle.listing.specs.Texts.{continued, listed}
use Rattle.listing.proofs.rows.Lister.subtask_list.Given as goal

abbrev pub invariant-loop-subtask : goal.invariant-loop-subtask
invariant-loop-subtask l =
    continued l.names (map (subtask_name (listed l.self)) (drop l.subtask-index l.subtasks)) ≡ subtask_list (listed l.self) l.subtasks

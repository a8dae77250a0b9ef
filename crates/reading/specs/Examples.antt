-- small texts
use Rattle.std.specs.Prelude.{◌≡◌, List, [], ◌∷◌, codes}
use Rattle.fields.specs.Text.{Bytes, joined, tab}
use Rattle.reading.specs.declared.faults.DomainFault.TheVariants.{Mark, Ladder}
use Rattle.reading.specs.Tables.{Tables}
use Rattle.reading.specs.Reading.{start, after_all, refused, fault_at}
use Rattle.reading.specs.Laws.{ClosesWith}

abbrev pub line_of : List Bytes → Bytes
line_of fs = joined tab fs

abbrev pub task_a : Bytes → Bytes → Bytes
task_a level mark = line_of (codes "T" ∷ codes "a" ∷ level ∷ mark ∷ [])

abbrev pub method_of_a : Bytes → Bytes
method_of_a subtasks = line_of (codes "M" ∷ codes "a" ∷ codes "0" ∷ codes "0" ∷ subtasks ∷ [])

-- a task a of level 0 marked v, with a method that has a itself as its one subtask
abbrev pub ladder_broken_text : List Bytes
ladder_broken_text = task_a (codes "0") (codes "v") ∷ method_of_a (codes "a") ∷ []

-- the same from level 1 down to a task b of level 0
abbrev pub ladder_kept_text : List Bytes
ladder_kept_text =
    task_a (codes "1") (codes "v") ∷ line_of (codes "T" ∷ codes "b" ∷ codes "0" ∷ codes "v" ∷ []) ∷ method_of_a (codes "b") ∷ codes "E" ∷ []

-- an empty method of a task marked n
abbrev pub mark_broken_text : List Bytes
mark_broken_text = task_a (codes "0") (codes "n") ∷ method_of_a (codes "-") ∷ []

pub record Examples : Type 0 where
  pub ladder_broken : after_all start ladder_broken_text ≡ refused (fault_at Ladder 2)
  pub ladder_kept : (t : Tables) × ClosesWith ladder_kept_text t 4
  pub mark_broken : after_all start mark_broken_text ≡ refused (fault_at Mark 2)

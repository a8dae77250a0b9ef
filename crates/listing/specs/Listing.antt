-- the text that lists a domain: one row for each entry,
-- in the notation of a domain file, with its number after the letter
use Rattle.std.specs.Prelude.{ℕ, suc, ◌/◌, ◌%◌, Bool, true, false, cond, List, [], ◌∷◌, ◌++◌, codes, decimal, ◌==◌, map, slice_index_or}
use Rattle.std.specs.List.{flat_map}
use Rattle.fields.specs.Text.{Bytes, joined, comma}
use Rattle.theory.specs.Model.{Method}
use Rattle.theory.specs.declared.Subtask.{Subtask}
use Rattle.theory.specs.declared.Subtask.TheVariants.{Primitive, Compound}
use Rattle.theory.specs.declared.Constraint.{Constraint}
use Rattle.theory.specs.declared.Constraint.TheVariants.{Before, After, Between}
use Rattle.report.specs.Report.{row}
use Rattle.reading.specs.Tables.{Tables, ActionEntry, TaskEntry, action_names, task_names}

-- names with commas between them, or a lone hyphen
abbrev pub name_list : List Bytes → Bytes
name_list [] = codes "-"
name_list (n ∷ ns) = joined comma (n ∷ ns)

-- the names of the facts in a set, in ascending order of their numbers: the lowest bit tells of the first
abbrev pub chosen : ℕ → List Bytes → List Bytes
chosen set [] = []
chosen set (n ∷ ns) = cond ((set % 2) == 1) (n ∷ chosen (set / 2) ns) (chosen (set / 2) ns)

abbrev pub mark_text : Bool → Bytes
mark_text true = codes "v"
mark_text false = codes "n"

-- the texts of entries that are numbered from n on, one after the other
abbrev pub numbered : {A : Type 0} → (ℕ → A → Bytes) → ℕ → List A → Bytes
numbered text n [] = []
numbered text n (x ∷ xs) = text n x ++ numbered text (suc n) xs

abbrev pub fact_row : ℕ → Bytes → Bytes
fact_row i name = row (codes "F" ∷ decimal i ∷ name ∷ [])

abbrev pub task_row : ℕ → TaskEntry → Bytes
task_row i e = row (codes "T" ∷ decimal i ∷ e.name ∷ decimal e.level ∷ mark_text e.vanish ∷ [])

module _ (t : Tables) where
  abbrev pub fact_names : ℕ → Bytes
  fact_names set = name_list (chosen set t.facts)

  abbrev pub action_row : ℕ → ActionEntry → Bytes
  action_row i a =
      row (codes "A" ∷ decimal i ∷ a.name
      ∷ fact_names a.needs ∷ fact_names a.adds ∷ fact_names a.deletes ∷ [])

  abbrev pub fact_name : ℕ → Bytes
  fact_name f = slice_index_or t.facts f []

  abbrev pub subtask_name : Subtask → Bytes
  subtask_name (Primitive a) = slice_index_or (action_names t) a []
  subtask_name (Compound j) = slice_index_or (task_names t) j []

  abbrev pub subtask_names : List Subtask → List Bytes
  subtask_names ss = map subtask_name ss

  abbrev pub subtask_list : List Subtask → Bytes
  subtask_list ss = name_list (subtask_names ss)

  abbrev pub method_row : ℕ → Method → Bytes
  method_row i m =
      row (codes "M" ∷ decimal i ∷ subtask_name (Compound m.owner)
      ∷ decimal m.price ∷ decimal m.grade ∷ subtask_list m.subtasks ∷ [])

  -- a constraint has its method's number
  abbrev pub constraint_row : ℕ → Constraint → Bytes
  constraint_row i (Before j f) = row (codes "B" ∷ decimal i ∷ decimal j ∷ fact_name f ∷ [])
  constraint_row i (After j f) = row (codes "P" ∷ decimal i ∷ decimal j ∷ fact_name f ∷ [])
  constraint_row i (Between j f k) = row (codes "K" ∷ decimal i ∷ decimal j ∷ fact_name f ∷ decimal k ∷ [])

  abbrev pub constraint_rows : ℕ → List Constraint → Bytes
  constraint_rows i cs = flat_map (constraint_row i) cs

  -- a method's row and those of its constraints
  abbrev pub method_rows : ℕ → Method → Bytes
  method_rows i m = method_row i m ++ constraint_rows i m.constraints

  -- the four parts of the listing
  abbrev pub fact_part : Bytes
  fact_part = numbered fact_row 0 t.facts

  abbrev pub action_part : Bytes
  action_part = numbered action_row 0 t.actions

  abbrev pub task_part : Bytes
  task_part = numbered task_row 0 t.tasks

  abbrev pub method_part : Bytes
  method_part = numbered method_rows 0 t.methods

  abbrev pub listing : Bytes
  listing = ((fact_part ++ action_part) ++ task_part) ++ method_part

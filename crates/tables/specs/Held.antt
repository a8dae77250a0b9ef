-- what the entries of the tables mean
use Rattle.std.specs.Prelude.{cond, List, [], ◌∷◌, ◌++◌, map, length, Some, None, Option, nat_lt}
use Rattle.fields.specs.Held.{name_text}
use Rattle.fields.specs.Text.{Bytes}
use Rattle.theory.specs.Model as model
use Rattle.theory.specs.declared.Subtask.{Subtask}
use Rattle.reading.specs.Tables.{ActionEntry, TaskEntry, rank, index_of, or_task}
use Rattle.tables.specs.declared.few.Few.{Few}
use Rattle.tables.specs.declared.few.Few.TheVariants.{Zero, One, Two, Three, Four}
use Rattle.tables.specs.declared.entries.Action.{Action}
use Rattle.tables.specs.declared.entries.Task.{Task}
use Rattle.tables.specs.declared.entries.Method.{Method}

abbrev pub few_items : {T : Type 0} → Few T → List T
few_items Zero = []
few_items (One a) = a
few_items (Two a) = a
few_items (Three a) = a
few_items (Four a) = a

-- a list of at most four with one more at its end, where there is room
abbrev pub grown : {T : Type 0} → List T → T → Option (List T)
grown xs x = cond (nat_lt (length xs) 4) (Some (xs ++ x ∷ [])) None

abbrev pub action_name : Action → Bytes
action_name a = name_text a.name

abbrev pub task_name : Task → Bytes
task_name t = name_text t.name

abbrev pub action_entry : Action → ActionEntry
action_entry a = record { name = name_text a.name; needs = a.needs; adds = a.adds; deletes = a.deletes }

abbrev pub task_entry : Task → TaskEntry
task_entry t = record { name = name_text t.name; level = t.level; vanish = t.vanishes }

abbrev pub method_entry : Method → model.Method
method_entry m = record { owner = m.task; price = m.price; grade = m.grade; subtasks = few_items m.subtasks; constraints = few_items m.constraints }

abbrev pub task_ranks : List Task → List model.Task
task_ranks ts = map rank (map task_entry ts)

-- the action or the task of a name
abbrev pub symbol_in : List Action → List Task → Bytes → Option Subtask
symbol_in actions tasks n = or_task (index_of n (map action_name actions)) (index_of n (map task_name tasks))

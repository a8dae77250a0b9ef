-- the tables that the lines of a domain fill; each kind is numbered from 0 by its place in its table
use Rattle.std.specs.Prelude.{ℕ, suc, Bool, cond, List, [], ◌∷◌, ◌++◌, map, Some, None, Option}
use Rattle.std.specs.Str.{bytes_eq}
use Rattle.fields.specs.Text.{Bytes}
use Rattle.theory.specs.Model.{Task, Method}
use Rattle.theory.specs.declared.Subtask.{Subtask}
use Rattle.theory.specs.declared.Subtask.TheVariants.{Primitive, Compound}
use Rattle.theory.specs.declared.Constraint.{Constraint}

-- an action's needed, added and deleted facts are sets written as numbers: bit f is fact f
pub record ActionEntry : Type 0 where
  pub name : Bytes
  pub needs : ℕ
  pub adds : ℕ
  pub deletes : ℕ

pub record TaskEntry : Type 0 where
  pub name : Bytes
  pub level : ℕ
  pub vanish : Bool

pub record Tables : Type 0 where
  pub facts : List Bytes
  pub actions : List ActionEntry
  pub tasks : List TaskEntry
  pub methods : List Method

abbrev pub empty : Tables
empty = record { facts = []; actions = []; tasks = []; methods = [] }

abbrev pub rank : TaskEntry → Task
rank e = record { level = e.level; vanish = e.vanish }

abbrev pub ranks : Tables → List Task
ranks t = map rank t.tasks

abbrev pub action_names : Tables → List Bytes
action_names t = map (λ (a : ActionEntry). a.name) t.actions

abbrev pub task_names : Tables → List Bytes
task_names t = map (λ (e : TaskEntry). e.name) t.tasks

abbrev pub next : Option ℕ → Option ℕ
next (Some n) = Some (suc n)
next None = None

-- the number of the first that has this name
abbrev pub index_of : Bytes → List Bytes → Option ℕ
index_of n [] = None
index_of n (x ∷ xs) = cond (bytes_eq x n) (Some 0) (next (index_of n xs))

abbrev pub fact_of : Tables → Bytes → Option ℕ
fact_of t n = index_of n t.facts

abbrev pub task_of : Tables → Bytes → Option ℕ
task_of t n = index_of n (task_names t)

abbrev pub or_task : Option ℕ → Option ℕ → Option Subtask
or_task (Some a) j = Some (Primitive a)
or_task None (Some j) = Some (Compound j)
or_task None None = None

-- actions and tasks share one set of names
abbrev pub symbol_of : Tables → Bytes → Option Subtask
symbol_of t n = or_task (index_of n (action_names t)) (task_of t n)

-- one more entry, at the end of its table
abbrev pub add_fact : Tables → Bytes → Tables
add_fact t n = record { facts = t.facts ++ n ∷ []; actions = t.actions; tasks = t.tasks; methods = t.methods }

abbrev pub add_action : Tables → ActionEntry → Tables
add_action t a = record { facts = t.facts; actions = t.actions ++ a ∷ []; tasks = t.tasks; methods = t.methods }

abbrev pub add_task : Tables → TaskEntry → Tables
add_task t e = record { facts = t.facts; actions = t.actions; tasks = t.tasks ++ e ∷ []; methods = t.methods }

abbrev pub add_method : Tables → Method → Tables
add_method t m = record { facts = t.facts; actions = t.actions; tasks = t.tasks; methods = t.methods ++ m ∷ [] }

abbrev pub constrained : Constraint → Method → Method
constrained c m = record { owner = m.owner; price = m.price; grade = m.grade; subtasks = m.subtasks; constraints = m.constraints ++ c ∷ [] }

abbrev pub on_last : {A : Type 0} → (A → A) → List A → List A
on_last f [] = []
on_last f (x ∷ []) = f x ∷ []
on_last f (x ∷ y ∷ ys) = x ∷ on_last f (y ∷ ys)

abbrev pub last_or : {A : Type 0} → A → List A → A
last_or d [] = d
last_or d (x ∷ xs) = last_or x xs

-- a constraint is written into the record of the last method
abbrev pub add_constraint : Tables → Constraint → Tables
add_constraint t c = record { facts = t.facts; actions = t.actions; tasks = t.tasks; methods = on_last (constrained c) t.methods }

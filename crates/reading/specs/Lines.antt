-- what each kind of line says: its fields one after the other from the left, each wholly, as far as the first fault;
-- then whether its table has room; then the rules
use Rattle.std.specs.Prelude.{ℕ, suc, ◌^◌, Bool, true, false, List, [], ◌∷◌, ◌++◌, length, Some, None, Ok, Err, Option, Result, ◌==◌, bit_and, bit_or, nat_lt}
use Rattle.fields.specs.Text.{Bytes}
use Rattle.fields.specs.Read.{Read, name_in, number_in, mark_in, list_in, short_list_in}
use Rattle.fields.specs.declared.faults.LineFault.TheVariants.{Field}
use Rattle.theory.specs.Model.{Method, no_method}
use Rattle.theory.specs.Rules.{keeps_mark, keeps_ladder}
use Rattle.theory.specs.declared.Subtask.{Subtask}
use Rattle.theory.specs.declared.Constraint.{Constraint}
use Rattle.theory.specs.declared.Constraint.TheVariants.{Between}
use Rattle.reading.specs.declared.faults.DomainFault.{DomainFault}
use Rattle.reading.specs.declared.faults.DomainFault.TheVariants.{Line, Declared, Undeclared, Full, Clash, Mark, Ladder}
use Rattle.reading.specs.Tables.{Tables, ranks, fact_of, task_of, symbol_of, add_fact, add_action, add_task, add_method, add_constraint, last_or}

-- what is read, or the first fault
abbrev pub Check : Type 0 → Type 0
Check A = Result A DomainFault

infixl 10 ◌>>=◌
infixl 10 ◌>>◌
abbrev pub ◌>>=◌ : {A B : Type 0} → Check A → (A → Check B) → Check B
Ok x >>= f = f x
Err e >>= f = Err e

abbrev pub ◌>>◌ : {A B : Type 0} → Check A → Check B → Check B
Ok x >> y = y
Err e >> y = Err e

abbrev pub must : Bool → DomainFault → Check (Unit {0})
must true e = Ok tt
must false e = Err e

abbrev pub found : {A : Type 0} → Option A → DomainFault → Check A
found (Some x) e = Ok x
found None e = Err e

-- a field's fault is a fault of its line
abbrev pub field : {A : Type 0} → Read A → Check A
field (Ok x) = Ok x
field (Err e) = Err (Line (Field e))

abbrev pub is_none : {A : Type 0} → Option A → Bool
is_none (Some x) = false
is_none None = true

-- a name that nothing of this kind has yet
abbrev pub new_name : {A : Type 0} → (Bytes → Option A) → List Bytes → ℕ → Check Bytes
new_name find fs k = do
  n ← field (name_in fs k)
  must (is_none (find n)) (Declared k)
  Ok n

-- what a declared name stands for
abbrev pub old_name : {A : Type 0} → (Bytes → Option A) → List Bytes → ℕ → Check A
old_name find fs k = do
  n ← field (name_in fs k)
  found (find n) (Undeclared k)

-- the names of a list from the left: what each stands for is taken in, in turn
abbrev pub taking : {A B : Type 0} → (B → A → B) → (Bytes → Option A) → DomainFault → B → List Bytes → Check B
taking step find e acc [] = Ok acc
taking step find e acc (n ∷ ns) = do
  x ← found (find n) e
  taking step find e (step acc x) ns

-- a set with one fact more, which changes nothing where it has the fact
abbrev pub with_fact : ℕ → ℕ → ℕ
with_fact set f = bit_or set (2 ^ f)

abbrev pub with_last : {A : Type 0} → List A → A → List A
with_last xs x = xs ++ x ∷ []

-- the set of the facts in a list
abbrev pub fact_set : Tables → List Bytes → ℕ → Check ℕ
fact_set t fs k = do
  ns ← field (list_in fs k)
  taking with_fact (fact_of t) (Undeclared k) 0 ns

-- the at most four subtasks in a list
abbrev pub subtask_list : Tables → List Bytes → ℕ → Check (List Subtask)
subtask_list t fs k = do
  ns ← field (short_list_in fs k 4)
  taking with_last (symbol_of t) (Undeclared k) [] ns

-- there is room where fewer than the most stand in the table
abbrev pub room : {A : Type 0} → ℕ → List A → Check (Unit {0})
room most xs = must (nat_lt (length xs) most) Full

abbrev pub fact_line : Tables → List Bytes → Check Tables
fact_line t fs = do
  n ← new_name (fact_of t) fs 2
  room 64 t.facts
  Ok (add_fact t n)

abbrev pub action_line : Tables → List Bytes → Check Tables
action_line t fs = do
  n ← new_name (symbol_of t) fs 2
  needs ← fact_set t fs 3
  adds ← fact_set t fs 4
  deletes ← fact_set t fs 5
  room 64 t.actions
  must (bit_and adds deletes == 0) Clash
  Ok (add_action t (record { name = n; needs = needs; adds = adds; deletes = deletes }))

abbrev pub task_line : Tables → List Bytes → Check Tables
task_line t fs = do
  n ← new_name (symbol_of t) fs 2
  level ← field (number_in fs 3 0 7)
  vanish ← field (mark_in fs 4)
  room 48 t.tasks
  Ok (add_task t (record { name = n; level = level; vanish = vanish }))

abbrev pub method_line : Tables → List Bytes → Check Tables
method_line t fs = do
  owner ← old_name (task_of t) fs 2
  price ← field (number_in fs 3 0 1000)
  grade ← field (number_in fs 4 0 9)
  subtasks ← subtask_list t fs 5
  room 128 t.methods
  must (keeps_mark (ranks t) owner subtasks) Mark
  must (keeps_ladder (ranks t) owner subtasks) Ladder
  Ok (add_method t (record { owner = owner; price = price; grade = grade; subtasks = subtasks; constraints = [] }))

-- the method that a constraint line stands below
abbrev pub last_method : Tables → Method
last_method t = last_or no_method t.methods

-- its number of subtasks, the k of the format
abbrev pub arity : Tables → ℕ
arity t = length (last_method t).subtasks

-- one constraint more, written into the record of that method, which has at most four
abbrev pub constrain : Tables → Constraint → Check Tables
constrain t c = do
  room 4 (last_method t).constraints
  Ok (add_constraint t c)

-- before and after: position 0 to k; fact
abbrev pub position_line : (ℕ → ℕ → Constraint) → Tables → List Bytes → Check Tables
position_line constraint t fs = do
  j ← field (number_in fs 2 0 (arity t))
  f ← old_name (fact_of t) fs 3
  constrain t (constraint j f)

-- between: position i from 1 to k; fact; position j from i+1 to k
abbrev pub between_line : Tables → List Bytes → Check Tables
between_line t fs = do
  i ← field (number_in fs 2 1 (arity t))
  f ← old_name (fact_of t) fs 3
  j ← field (number_in fs 4 (suc i) (arity t))
  constrain t (Between i f j)

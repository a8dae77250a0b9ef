-- what a text of domain lines declares, said of the whole text
use Rattle.std.specs.Prelude.{◌≡◌, ℕ, suc, ◌<◌, ◌≤◌, Bool, true, false, T, List, [], ◌∷◌, ◌++◌, length, Ok, codes, ◌≢◌, bit_and, slice_index_or}
use Rattle.fields.specs.Text.{Bytes, fields, items, name_form, number_form, value}
use Rattle.theory.specs.Lists.{All}
use Rattle.theory.specs.Model.{Method, MarkRule, LadderRule}
use Rattle.theory.specs.declared.Subtask.{Subtask}
use Rattle.theory.specs.declared.Subtask.TheVariants.{Primitive, Compound}
use Rattle.theory.specs.declared.Constraint.{Constraint}
use Rattle.theory.specs.declared.Constraint.TheVariants.{Before, After, Between}
use Rattle.reading.specs.Tables.{Tables, ActionEntry, TaskEntry, ranks, action_names, task_names}
use Rattle.reading.specs.Lines.{with_fact}
use Rattle.reading.specs.Reading.{Answer, start, answers}
use Rattle.reading.specs.Laws.{ClosesWith}

-- two lists of the same length whose elements correspond one by one
abbrev pub Each : {A B : Type 0} → (A → B → Type 0) → List A → List B → Type 0
Each R [] [] = Unit {0}
Each R [] (y ∷ ys) = ⊥
Each R (x ∷ xs) [] = ⊥
Each R (x ∷ xs) (y ∷ ys) = R x y × Each R xs ys

-- no element stands twice
abbrev pub Distinct : {A : Type 0} → List A → Type 0
Distinct [] = Unit {0}
Distinct (x ∷ xs) = All (λ y. x ≢ y) xs × Distinct xs

-- the line is these fields, and short enough
abbrev pub Written : Bytes → List Bytes → Type 0
Written l fs = (fields l ≡ fs) × (length l ≤ 255)

-- the name is that of number i in a table
abbrev pub Names : List Bytes → Bytes → ℕ → Type 0
Names table n i = (i < length table) × (slice_index_or table i [] ≡ n)

abbrev pub IsNumber : ℕ → ℕ → Bytes → ℕ → Type 0
IsNumber low high f v = T (number_form f) × (value 0 f ≡ v) × (low ≤ v) × (v ≤ high)

abbrev pub IsMark : Bytes → Bool → Type 0
IsMark f true = f ≡ codes "v"
IsMark f false = f ≡ codes "n"

-- the set of the facts whose numbers are in a list
abbrev pub set_of : ℕ → List ℕ → ℕ
set_of set [] = set
set_of set (f ∷ fs) = set_of (with_fact set f) fs

-- the list is of names, each that of a fact, and the set is that of those facts
pub record IsFactSet (t : Tables) (f : Bytes) (set : ℕ) : Type 0 where
  pub names : All (λ n. T (name_form n)) (items f)
  pub numbers : List ℕ
  pub named : Each (Names t.facts) (items f) numbers
  pub is : set_of 0 numbers ≡ set

abbrev pub IsFact : Bytes → Bytes → Type 0
IsFact l name = Written l (codes "F" ∷ name ∷ []) × T (name_form name)

pub record IsAction (t : Tables) (l : Bytes) (a : ActionEntry) : Type 0 where
  pub needs : Bytes
  pub adds : Bytes
  pub deletes : Bytes
  pub written : Written l (codes "A" ∷ a.name ∷ needs ∷ adds ∷ deletes ∷ [])
  pub name : T (name_form a.name)
  pub needed : IsFactSet t needs a.needs
  pub added : IsFactSet t adds a.adds
  pub deleted : IsFactSet t deletes a.deletes
  pub apart : bit_and a.adds a.deletes ≡ 0

pub record IsTask (l : Bytes) (e : TaskEntry) : Type 0 where
  pub level : Bytes
  pub mark : Bytes
  pub written : Written l (codes "T" ∷ e.name ∷ level ∷ mark ∷ [])
  pub name : T (name_form e.name)
  pub levelled : IsNumber 0 7 level e.level
  pub marked : IsMark mark e.vanish

-- the name of an action or of a task
abbrev pub IsSubtask : Tables → Bytes → Subtask → Type 0
IsSubtask t n (Primitive a) = Names (action_names t) n a
IsSubtask t n (Compound j) = Names (task_names t) n j

-- a constraint line below a method of k subtasks
pub record IsPosition (t : Tables) (k : ℕ) (letter : Bytes) (l : Bytes) (j f : ℕ) : Type 0 where
  pub position : Bytes
  pub fact : Bytes
  pub written : Written l (letter ∷ position ∷ fact ∷ [])
  pub placed : IsNumber 0 k position j
  pub form : T (name_form fact)
  pub named : Names t.facts fact f

pub record IsBetween (t : Tables) (k : ℕ) (l : Bytes) (i f j : ℕ) : Type 0 where
  pub from : Bytes
  pub fact : Bytes
  pub to : Bytes
  pub written : Written l (codes "K" ∷ from ∷ fact ∷ to ∷ [])
  pub first : IsNumber 1 k from i
  pub form : T (name_form fact)
  pub named : Names t.facts fact f
  pub second : IsNumber (suc i) k to j

abbrev pub IsConstraint : Tables → ℕ → Bytes → Constraint → Type 0
IsConstraint t k l (Before j f) = IsPosition t k (codes "B") l j f
IsConstraint t k l (After j f) = IsPosition t k (codes "P") l j f
IsConstraint t k l (Between i f j) = IsBetween t k l i f j

-- a method's line with the constraint lines below it
pub record Block : Type 0 where
  pub line : Bytes
  pub below : List Bytes

pub record IsMethod (t : Tables) (b : Block) (m : Method) : Type 0 where
  pub owner : Bytes
  pub price : Bytes
  pub grade : Bytes
  pub subtasks : Bytes
  pub written : Written b.line (codes "M" ∷ owner ∷ price ∷ grade ∷ subtasks ∷ [])
  pub form : T (name_form owner)
  pub owned : Names (task_names t) owner m.owner
  pub priced : IsNumber 0 1000 price m.price
  pub graded : IsNumber 0 9 grade m.grade
  pub names : All (λ n. T (name_form n)) (items subtasks)
  pub few : length (items subtasks) ≤ 4
  pub parts : Each (IsSubtask t) (items subtasks) m.subtasks
  pub mark : MarkRule (ranks t) m.owner m.subtasks
  pub ladder : LadderRule (ranks t) m.owner m.subtasks
  pub constraints : Each (IsConstraint t (length m.subtasks)) b.below m.constraints
  pub room : length b.below ≤ 4

abbrev pub block_lines : List Block → List Bytes
block_lines [] = []
block_lines (b ∷ bs) = b.line ∷ (b.below ++ block_lines bs)

-- All F lines come first, then A, then T, then methods, each with its constraints, then E.
-- Line by line they are the entries of the tables in their order, so that each kind is numbered from 0.
pub record Declares (text : List Bytes) (t : Tables) : Type 0 where
  pub fact_lines : List Bytes
  pub action_lines : List Bytes
  pub task_lines : List Bytes
  pub blocks : List Block
  pub order : text ≡ fact_lines ++ (action_lines ++ (task_lines ++ (block_lines blocks ++ codes "E" ∷ [])))
  pub facts : Each IsFact fact_lines t.facts
  pub actions : Each (IsAction t) action_lines t.actions
  pub tasks : Each IsTask task_lines t.tasks
  pub methods : Each (IsMethod t) blocks t.methods
  pub fact_names : Distinct t.facts
  pub symbol_names : Distinct (action_names t ++ task_names t)
  pub few_facts : length t.facts ≤ 64
  pub few_actions : length t.actions ≤ 64
  pub few_tasks : length t.tasks ≤ 48
  pub few_methods : length t.methods ≤ 128

-- every line is accepted, and the last one closes the domain
abbrev pub Accepted : List Bytes → Tables → Type 0
Accepted text t = All (λ (a : Answer). a ≡ Ok tt) (answers start text) × ((n : ℕ) × ClosesWith text t n)

-- a text is accepted and closes with these tables exactly when it declares them
abbrev pub TextDeclares : Type 0
TextDeclares = (text : List Bytes) (t : Tables) → (Accepted text t → Declares text t) × (Declares text t → Accepted text t)

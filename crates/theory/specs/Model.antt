-- the tasks and methods of a domain, and the two rules that its methods keep
use Rattle.std.specs.Prelude.{◌≡◌, ℕ, ◌<◌, Bool, false, T, List, [], ◌∷◌, ◌++◌, slice_index_or}
use Rattle.theory.specs.Lists.{All}
use Rattle.theory.specs.declared.Subtask.{Subtask}
use Rattle.theory.specs.declared.Subtask.TheVariants.{Primitive, Compound}
use Rattle.theory.specs.declared.Constraint.{Constraint}

-- a task's level, and whether it may vanish, which is its mark v: an empty stretch of actions may then be the whole of it
pub record Task : Type 0 where
  pub level : ℕ
  pub vanish : Bool

-- a way to break down the task of number owner, at a price, with a grade of licence
pub record Method : Type 0 where
  pub owner : ℕ
  pub price : ℕ
  pub grade : ℕ
  pub subtasks : List Subtask
  pub constraints : List Constraint

abbrev pub no_task : Task
no_task = record { level = 0; vanish = false }

abbrev pub no_method : Method
no_method = record { owner = 0; price = 0; grade = 0; subtasks = []; constraints = [] }

module _ (tasks : List Task) where
  abbrev pub level_of : ℕ → ℕ
  level_of t = (slice_index_or tasks t no_task).level

  -- a task marked v; never an action
  abbrev pub Vanishing : Subtask → Type 0
  Vanishing (Primitive a) = ⊥
  Vanishing (Compound t) = T (slice_index_or tasks t no_task).vanish

  -- The mark rule: a method whose subtasks are all tasks marked v, an empty method too, belongs to a task marked v.
  abbrev pub MarkRule : ℕ → List Subtask → Type 0
  MarkRule owner subtasks = All Vanishing subtasks → Vanishing (Compound owner)

  -- The ladder rule: if a subtask is a task and every other subtask of that method is a task marked v,
  -- its level is below the level of the method's task.
  abbrev pub LadderRule : ℕ → List Subtask → Type 0
  LadderRule owner subtasks =
      (before : List Subtask) (t : ℕ) (after : List Subtask) → subtasks ≡ before ++ (Compound t ∷ after)
      → All Vanishing before → All Vanishing after → level_of t < level_of owner

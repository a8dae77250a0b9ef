-- the two rules as tests
use Rattle.std.specs.Prelude.{ℕ, Bool, true, false, ◌&&◌, T, List, [], ◌∷◌, nat_lt, slice_index_or}
use Rattle.theory.specs.Lists.{all, implies}
use Rattle.theory.specs.Model.{Task, no_task, level_of, MarkRule, LadderRule}
use Rattle.theory.specs.declared.Subtask.{Subtask}
use Rattle.theory.specs.declared.Subtask.TheVariants.{Primitive, Compound}

module _ (tasks : List Task) where
  abbrev pub vanishes : Subtask → Bool
  vanishes (Primitive a) = false
  vanishes (Compound t) = (slice_index_or tasks t no_task).vanish

  -- an action has no level, so it stands below every one
  abbrev pub below : ℕ → Subtask → Bool
  below level (Primitive a) = true
  below level (Compound t) = nat_lt (level_of tasks t) level

  abbrev pub keeps_mark : ℕ → List Subtask → Bool
  keeps_mark owner subtasks = implies (all vanishes subtasks) (vanishes (Compound owner))

  -- a subtask stands below the level where those before it, which the flag tells of, and those after it may all vanish
  abbrev pub rung : ℕ → Bool → Subtask → List Subtask → Bool
  rung level before s after = implies (before && all vanishes after) (below level s)

  -- each of the subtasks does
  abbrev pub rungs : ℕ → Bool → List Subtask → Bool
  rungs level before [] = true
  rungs level before (s ∷ rest) = rung level before s rest && rungs level (before && vanishes s) rest

  abbrev pub keeps_ladder : ℕ → List Subtask → Bool
  keeps_ladder owner subtasks = rungs (level_of tasks owner) true subtasks

abbrev pub Decides : Bool → Type 0 → Type 0
Decides b P = (T b → P) × (P → T b)

abbrev pub RulesDecided : Type 0
RulesDecided =
    (tasks : List Task) (owner : ℕ) (subtasks : List Subtask)
    → Decides (keeps_mark tasks owner subtasks) (MarkRule tasks owner subtasks) × Decides (keeps_ladder tasks owner subtasks) (LadderRule tasks owner subtasks)

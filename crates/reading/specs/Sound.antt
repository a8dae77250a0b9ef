-- what the tables of a domain keep, as facts and as a test
use Rattle.std.specs.Prelude.{ℕ, ◌^◌, ◌<◌, ◌≤◌, Bool, ◌&&◌, List, length, nat_le, nat_lt}
use Rattle.theory.specs.Lists.{All, all}
use Rattle.theory.specs.Model.{Task, Method, MarkRule, LadderRule}
use Rattle.theory.specs.Rules.{keeps_mark, keeps_ladder}
use Rattle.theory.specs.declared.Subtask.{Subtask}
use Rattle.theory.specs.declared.Subtask.TheVariants.{Primitive, Compound}
use Rattle.theory.specs.declared.Constraint.{Constraint}
use Rattle.theory.specs.declared.Constraint.TheVariants.{Before, After, Between}
use Rattle.reading.specs.Tables.{Tables, ActionEntry, TaskEntry, ranks}

-- one of so many actions or of so many tasks
abbrev pub SubtaskIn : ℕ → ℕ → Subtask → Type 0
SubtaskIn actions tasks (Primitive a) = a < actions
SubtaskIn actions tasks (Compound t) = t < tasks

-- one of so many facts, at positions of a method of k subtasks
abbrev pub ConstraintIn : ℕ → ℕ → Constraint → Type 0
ConstraintIn facts k (Before j f) = (j ≤ k) × (f < facts)
ConstraintIn facts k (After j f) = (j ≤ k) × (f < facts)
ConstraintIn facts k (Between i f j) = (1 ≤ i) × (i < j) × (j ≤ k) × (f < facts)

-- sets of so many facts
pub record SoundAction (facts : ℕ) (a : ActionEntry) : Type 0 where
  pub needs : a.needs < 2 ^ facts
  pub adds : a.adds < 2 ^ facts
  pub deletes : a.deletes < 2 ^ facts

-- what a method refers to is there, and it keeps both rules
pub record SoundMethod (t : Tables) (m : Method) : Type 0 where
  pub owner : m.owner < length t.tasks
  pub subtasks : All (SubtaskIn (length t.actions) (length t.tasks)) m.subtasks
  pub few : length m.subtasks ≤ 4
  pub constraints : All (ConstraintIn (length t.facts) (length m.subtasks)) m.constraints
  pub mark : MarkRule (ranks t) m.owner m.subtasks
  pub ladder : LadderRule (ranks t) m.owner m.subtasks

pub record Sound (t : Tables) : Type 0 where
  pub facts : length t.facts ≤ 64
  pub actions : length t.actions ≤ 64
  pub tasks : length t.tasks ≤ 48
  pub methods : length t.methods ≤ 128
  pub sets : All (SoundAction (length t.facts)) t.actions
  pub levels : All (λ (e : TaskEntry). e.level ≤ 7) t.tasks
  pub ways : All (SoundMethod t) t.methods

-- the same as tests
abbrev pub subtask_in : ℕ → ℕ → Subtask → Bool
subtask_in actions tasks (Primitive a) = nat_lt a actions
subtask_in actions tasks (Compound t) = nat_lt t tasks

abbrev pub constraint_in : ℕ → ℕ → Constraint → Bool
constraint_in facts k (Before j f) = nat_le j k && nat_lt f facts
constraint_in facts k (After j f) = nat_le j k && nat_lt f facts
constraint_in facts k (Between i f j) = nat_le 1 i && (nat_lt i j && (nat_le j k && nat_lt f facts))

abbrev pub action_sound : ℕ → ActionEntry → Bool
action_sound facts a = nat_lt a.needs (2 ^ facts) && (nat_lt a.adds (2 ^ facts) && nat_lt a.deletes (2 ^ facts))

abbrev pub task_sound : TaskEntry → Bool
task_sound e = nat_le e.level 7

abbrev pub method_sound : ℕ → ℕ → List Task → Method → Bool
method_sound facts actions tasks m =
    nat_lt m.owner (length tasks) && (all (subtask_in actions (length tasks)) m.subtasks && (nat_le (length m.subtasks) 4
    && (all (constraint_in facts (length m.subtasks)) m.constraints && (keeps_mark tasks m.owner m.subtasks && keeps_ladder tasks m.owner m.subtasks))))

abbrev pub fits : Tables → Bool
fits t = nat_le (length t.facts) 64 && (nat_le (length t.actions) 64 && (nat_le (length t.tasks) 48 && nat_le (length t.methods) 128))

abbrev pub sound : Tables → Bool
sound t =
    fits t && (all (action_sound (length t.facts)) t.actions && (all task_sound t.tasks
    && all (method_sound (length t.facts) (length t.actions) (ranks t)) t.methods))

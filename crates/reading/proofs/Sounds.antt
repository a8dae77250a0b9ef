-- tables pass the test exactly when they are sound
use Rattle.std.proofs.Common.{ℕ, ◌≤◌, arith, length}
use Rattle.std.proofs.lemmas.Bool.Decides.{nat_tests}
use lib.ListN.{length-map}
use Rattle.theory.specs.Model.{Method}
use Rattle.theory.specs.declared.Subtask.{Subtask}
use Rattle.theory.specs.declared.Constraint.{Constraint}
use Rattle.theory.specs.Rules.{Decides}
use Rattle.theory.proofs.Lists.{all_decided}
use Rattle.theory.proofs.Rules.{rules_decided}
use Rattle.reading.specs.Tables.{Tables, ActionEntry, rank, ranks}
use Rattle.reading.specs.Sound.{SubtaskIn, ConstraintIn, SoundAction, SoundMethod, Sound, subtask_in, constraint_in, action_sound, task_sound, method_sound, sound}

pub subtask_decided : (actions tasks : ℕ) (s : Subtask) → Decides (subtask_in actions tasks s) (SubtaskIn actions tasks s)
subtask_decided actions tasks s = grind (arith, nat_tests)

pub constraint_decided : (facts k : ℕ) (c : Constraint) → Decides (constraint_in facts k c) (ConstraintIn facts k c)
constraint_decided facts k c = grind (arith, nat_tests)

pub action_decided : (facts : ℕ) (a : ActionEntry) → Decides (action_sound facts a) (SoundAction facts a)
action_decided facts a = grind (arith, nat_tests)

pub method_decided : (t : Tables) (m : Method) → Decides (method_sound (length t.facts) (length t.actions) (ranks t) m) (SoundMethod t m)
method_decided t m =
    let q = length-map t.tasks rank in
    let rules = rules_decided (ranks t) m.owner m.subtasks in
    let subtasks = all_decided (subtask_in (length t.actions) (length (ranks t))) (SubtaskIn (length t.actions) (length t.tasks)) (λ s. grind (arith, nat_tests, q)) m.subtasks in
    let constraints = all_decided (constraint_in (length t.facts) (length m.subtasks)) (ConstraintIn (length t.facts) (length m.subtasks)) (constraint_decided (length t.facts) (length m.subtasks)) m.constraints in
    grind (arith, nat_tests, q, rules.0, rules.1, subtasks, constraints)

pub sound_decided : (t : Tables) → Decides (sound t) (Sound t)
sound_decided t =
    let sets = all_decided (action_sound (length t.facts)) (SoundAction (length t.facts)) (action_decided (length t.facts)) t.actions in
    let levels = all_decided task_sound (λ e. e.level ≤ 7) (λ e. grind (arith, nat_tests)) t.tasks in
    let ways = all_decided (method_sound (length t.facts) (length t.actions) (ranks t)) (SoundMethod t) (method_decided t) t.methods in
    grind (arith, nat_tests, sets, levels, ways)

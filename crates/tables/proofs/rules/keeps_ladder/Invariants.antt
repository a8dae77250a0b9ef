use Rattle.std.proofs.Common.{◌≡◌, true, length}
use Rattle.theory.specs.Rules.{rungs}
use Rattle.tables.specs.Held.{task_ranks}
use Rattle.tables.proofs.rules.keeps_ladder.Given as goal

abbrev pub invariant-loop-subtask : goal.invariant-loop-subtask
invariant-loop-subtask l = rungs (task_ranks l.tasks) l.top l.before l.rest ≡ rungs (task_ranks l.tasks) l.top true l.subtasks

abbrev pub decreases-loop-subtask : goal.decreases-loop-subtask
decreases-loop-subtask l = length l.rest

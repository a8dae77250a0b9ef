-- the tasks that the rules look at
use Rattle.std.specs.Prelude.{List}
use Rattle.theory.specs.Model as model
use Rattle.tables.specs.Held.{task_ranks}
use Rattle.tables.specs.declared.rules.Ranks.{Ranks}

abbrev pub ranked : Ranks → List model.Task
ranked r = task_ranks r.tasks.now

use Rattle.std.proofs.Common.{List, vec_items, map, ap, ◌∙◌}
use Rattle.reading.specs.Tables.{index_of}
use Rattle.tables.specs.Held.{task_name}
use Rattle.tables.specs.declared.entries.Task.{Task}
use Rattle.tables.proofs.Names.{task_names_lem}
use Rattle.lines.proofs.filled.Tables.task_named.Goals as goal

pub returns : goal.returns
returns c = c.find.ensures ∙ ap (λ (ts : List Task). index_of c.args.name.now (map task_name ts)) c.as_slice.ensures.value ∙ ap (index_of c.args.name.now) (task_names_lem (vec_items c.args.self.now.tasks))

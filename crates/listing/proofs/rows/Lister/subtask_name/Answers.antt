use Rattle.std.proofs.Common.{arith}
use Rattle.std.proofs.lemmas.Grind.{common_steps}
use Rattle.reading.specs.Tables.{ActionEntry, TaskEntry}
use Rattle.tables.specs.Held.{action_entry, task_entry}
use Rattle.listing.proofs.Texts.{get_or-names}
use Rattle.listing.proofs.rows.Lister.subtask_name.Goals as goal

pub returns-in-Primitive : goal.returns-in-Primitive
returns-in-Primitive c =
    let e = get_or-names (λ (a : ActionEntry). a.name) action_entry c.actions.result.now _ c.in-Primitive.a c.actions.ensures in
    rw c.in-Primitive.is (grind (arith, common_steps))

pub returns-in-Compound : goal.returns-in-Compound
returns-in-Compound c =
    let e = get_or-names (λ (t : TaskEntry). t.name) task_entry c.tasks.result.now _ c.in-Compound.t c.tasks.ensures in
    rw c.in-Compound.is (grind (arith, common_steps))

use Rattle.lines.proofs.Pushes.{Pushed, task_took}
use Rattle.std.proofs.Common.{vec_items}
use Rattle.tables.specs.Held.{task_entry}
use Rattle.lines.proofs.Entries.{task_stop, task_goes, took_up}
use Rattle.lines.proofs.Rooms.{room_stop}
use Rattle.lines.proofs.lawful.LawfulTables.task_line.Goals as goal

pub returns-in_err-task : goal.returns-in_err-task
returns-in_err-task c =
    let t = c.args.self.now.tables in
    took_up _ t _ _ c.from_residual.ensures (task_stop t c.args.line.now c.in_err-task.ensures) c.args.self.now.ok

pub returns-in_err-room : goal.returns-in_err-room
returns-in_err-room c =
    let t = c.args.self.now.tables in
    took_up _ t _ _ c.from_residual-in_err-room.ensures
    (task_goes t c.args.line.now c.in_ok-task.ensures (room_stop task_entry (vec_items t.tasks) _ 48 _ c.in_err-room.ensures c.as_slice.ensures.value)) c.args.self.now.ok

pub invariant_of-self : goal.invariant_of-self
invariant_of-self c =
    let t = c.args.self.now.tables in
    let p : Pushed t.tasks c.push_reserved.new.self c.in_ok-task.task = record { items = c.push_reserved.ensures.items; capacity = c.push_reserved.ensures.capacity } in
    record { ok = (task_took t c.args.line.now c.args.self.now.ok c.push_reserved.new.self c.in_ok-task.task c.as_slice.result.now c.in_ok-task.ensures c.in_ok-room.ensures c.as_slice.ensures.value p).ok }

pub returns : goal.returns
returns c =
    let t = c.args.self.now.tables in
    let p : Pushed t.tasks c.push_reserved.new.self c.in_ok-task.task = record { items = c.push_reserved.ensures.items; capacity = c.push_reserved.ensures.capacity } in
    (task_took t c.args.line.now c.args.self.now.ok c.push_reserved.new.self c.in_ok-task.task c.as_slice.result.now c.in_ok-task.ensures c.in_ok-room.ensures c.as_slice.ensures.value p).took

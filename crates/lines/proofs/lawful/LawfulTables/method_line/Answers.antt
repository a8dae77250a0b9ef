use Rattle.lines.proofs.Pushes.{Pushed, method_took}
use Rattle.std.proofs.Common.{vec_items, Ok, ◌∙◌}
use Rattle.reading.specs.Tables.{add_method}
use Rattle.lines.specs.Closes.{meant}
use Rattle.tables.specs.Held.{method_entry}
use Rattle.lines.proofs.Entries.{method_stop, method_goes, rules_broken, took_up}
use Rattle.lines.proofs.Rooms.{room_stop, room_goes}
use Rattle.lines.proofs.lawful.LawfulTables.method_line.Goals as goal

pub returns-in_err-method : goal.returns-in_err-method
returns-in_err-method c =
    let t = c.args.self.now.tables in
    took_up _ t _ _ c.from_residual.ensures (method_stop t c.args.line.now c.in_err-method.ensures) c.args.self.now.ok

pub returns-in_err-room : goal.returns-in_err-room
returns-in_err-room c =
    let t = c.args.self.now.tables in
    took_up _ t _ _ c.from_residual-in_err-room.ensures
    (method_goes t c.args.line.now c.in_ok-method.ensures (room_stop method_entry (vec_items t.methods) _ 128 _ c.in_err-room.ensures c.as_slice.ensures.value)) c.args.self.now.ok

pub returns-in_err-ruled : goal.returns-in_err-ruled
returns-in_err-ruled c =
    let t = c.args.self.now.tables in
    let m = c.in_ok-method.method in
    took_up _ t _ _ c.from_residual-in_err-ruled.ensures
    (method_goes t c.args.line.now c.in_ok-method.ensures (room_goes method_entry (vec_items t.methods) _ 128 _ c.in_ok-room.ensures c.as_slice.ensures.value
    ∙ rules_broken t m (Ok (add_method (meant t) (method_entry m))) c.in_err-ruled.ensures)) c.args.self.now.ok

pub invariant_of-self : goal.invariant_of-self
invariant_of-self c =
    let t = c.args.self.now.tables in
    let p : Pushed t.methods c.push_reserved.new.self c.in_ok-method.method = record { items = c.push_reserved.ensures.items; capacity = c.push_reserved.ensures.capacity } in
    record { ok = (method_took t c.args.line.now c.args.self.now.ok c.push_reserved.new.self c.in_ok-method.method c.as_slice.result.now c.in_ok-method.ensures c.in_ok-room.ensures c.as_slice.ensures.value c.in_ok-ruled.ensures p).ok }

pub returns : goal.returns
returns c =
    let t = c.args.self.now.tables in
    let p : Pushed t.methods c.push_reserved.new.self c.in_ok-method.method = record { items = c.push_reserved.ensures.items; capacity = c.push_reserved.ensures.capacity } in
    (method_took t c.args.line.now c.args.self.now.ok c.push_reserved.new.self c.in_ok-method.method c.as_slice.result.now c.in_ok-method.ensures c.in_ok-room.ensures c.as_slice.ensures.value c.in_ok-ruled.ensures p).took

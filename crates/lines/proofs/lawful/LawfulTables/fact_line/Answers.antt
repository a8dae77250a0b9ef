use Rattle.std.proofs.Common.{vec_items, sym}
use Rattle.fields.specs.Held.{name_text}
use Rattle.reading.proofs.Checks.{step, stop}
use Rattle.lines.proofs.Entries.{took_up}
use Rattle.lines.proofs.Rooms.{room_stop}
use Rattle.lines.proofs.Pushes.{Pushed, fact_took}
use Rattle.lines.proofs.lawful.LawfulTables.fact_line.Goals as goal

pub returns-in_err-name : goal.returns-in_err-name
returns-in_err-name c =
    let t = c.args.self.now.tables in
    took_up _ t _ _ c.from_residual.ensures (stop _ (sym c.in_err-name.ensures)) c.args.self.now.ok

pub returns-in_err-room : goal.returns-in_err-room
returns-in_err-room c =
    let t = c.args.self.now.tables in
    took_up _ t _ _ c.from_residual-in_err-room.ensures
    (step _ (sym c.in_ok-name.ensures) (room_stop name_text (vec_items t.facts) _ 64 _ c.in_err-room.ensures c.as_slice.ensures.value)) c.args.self.now.ok

pub invariant_of-self : goal.invariant_of-self
invariant_of-self c =
    let t = c.args.self.now.tables in
    let p : Pushed t.facts c.push_reserved.new.self c.in_ok-name.name = record { items = c.push_reserved.ensures.items; capacity = c.push_reserved.ensures.capacity } in
    record { ok = (fact_took t c.args.line.now c.args.self.now.ok c.push_reserved.new.self c.in_ok-name.name c.as_slice.result.now c.in_ok-name.ensures c.in_ok-room.ensures c.as_slice.ensures.value p).ok }

pub returns : goal.returns
returns c =
    let t = c.args.self.now.tables in
    let p : Pushed t.facts c.push_reserved.new.self c.in_ok-name.name = record { items = c.push_reserved.ensures.items; capacity = c.push_reserved.ensures.capacity } in
    (fact_took t c.args.line.now c.args.self.now.ok c.push_reserved.new.self c.in_ok-name.name c.as_slice.result.now c.in_ok-name.ensures c.in_ok-room.ensures c.as_slice.ensures.value p).took

use Rattle.lines.proofs.Pushes.{Pushed, action_took}
use Rattle.std.proofs.Common.{vec_items, refl, ◌∙◌, eq-eqb, ne_eqb}
use Rattle.reading.specs.declared.faults.DomainFault.TheVariants.{Clash}
use Rattle.reading.proofs.Checks.{fail}
use Rattle.lines.proofs.Closing.{closed_roomy}
use Rattle.tables.specs.Held.{action_entry}
use Rattle.lines.proofs.Entries.{action_stop, action_goes, took_up}
use Rattle.lines.proofs.Rooms.{room_stop, room_goes}
use Rattle.lines.proofs.lawful.LawfulTables.action_line.Goals as goal

pub returns-in_err-action : goal.returns-in_err-action
returns-in_err-action c =
    let t = c.args.self.now.tables in
    took_up _ t _ _ c.from_residual.ensures (action_stop t c.args.line.now c.in_err-action.ensures) c.args.self.now.ok

pub returns-in_err-room : goal.returns-in_err-room
returns-in_err-room c =
    let t = c.args.self.now.tables in
    took_up _ t _ _ c.from_residual-in_err-room.ensures
    (action_goes t c.args.line.now c.in_ok-action.ensures (room_stop action_entry (vec_items t.actions) _ 64 _ c.in_err-room.ensures c.as_slice.ensures.value)) c.args.self.now.ok

pub returns-then-action-ne0 : goal.returns-then-action-ne0
returns-then-action-ne0 c =
    let t = c.args.self.now.tables in (
      action_goes t c.args.line.now c.in_ok-action.ensures (room_goes action_entry (vec_items t.actions) _ 64 _ c.in_ok-room.ensures c.as_slice.ensures.value
          ∙ fail Clash _ (ne_eqb _ _ c.if-action-ne0.true)),
      refl,
      closed_roomy t c.args.self.now.ok,
    )

pub invariant_of-self : goal.invariant_of-self
invariant_of-self c =
    let t = c.args.self.now.tables in
    let p : Pushed t.actions c.push_reserved.new.self c.in_ok-action.action = record { items = c.push_reserved.ensures.items; capacity = c.push_reserved.ensures.capacity } in
    record { ok = (action_took t c.args.line.now c.args.self.now.ok c.push_reserved.new.self c.in_ok-action.action c.as_slice.result.now c.in_ok-action.ensures c.in_ok-room.ensures c.as_slice.ensures.value (eq-eqb _ _ c.if-action-ne0.false) p).ok }

pub returns : goal.returns
returns c =
    let t = c.args.self.now.tables in
    let p : Pushed t.actions c.push_reserved.new.self c.in_ok-action.action = record { items = c.push_reserved.ensures.items; capacity = c.push_reserved.ensures.capacity } in
    (action_took t c.args.line.now c.args.self.now.ok c.push_reserved.new.self c.in_ok-action.action c.as_slice.result.now c.in_ok-action.ensures c.in_ok-room.ensures c.as_slice.ensures.value (eq-eqb _ _ c.if-action-ne0.false) p).took

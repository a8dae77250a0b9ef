use Rattle.std.proofs.Common.{◌≡◌, ℕ, ◌+◌, ◌⊎◌, [], map, length, take, refl, sym, ap, ◌∙◌, inl, inr, arith}
use Rattle.std.proofs.lemmas.List.{map-set}
use Rattle.fields.specs.Text.{fields, tab}
use Rattle.fields.specs.Held.{pieces_left}
use Rattle.fields.proofs.Cuts.{parted_len}
use Rattle.fields.proofs.Lists.{filled_as, filled_more, filled_all}
use Rattle.fields.proofs.line.Line.cut.Goals as goal
use Rattle.fields.proofs.line.Line.cut.Goals.{else-loop-i-test, then-loop-i-test+in_default}

pub loop-i-preserved : goal.loop-i-preserved
loop-i-preserved c =
    let xs = map (λ x. x.now) c.loop-i.at in
    let i = c.loop-i.i in
    let f = filled_as refl c.in-Some.ensures.steps refl c.loop-i.invariant.1 in (
      refl,
      filled_as (sym (map-set (λ x. x.now) c.loop-i.at i c.in-Some.piece)) refl refl
          (filled_more (fields c.args.bytes.now) xs c.in-Some.piece.now (pieces_left c.next.new.self) i f c.loop-i-test.true),
    )

-- what is left where the loop ends: what was left before its last turn
left_same : (c : goal.After-left) → pieces_left c.loop-i-test.pieces ≡ pieces_left c.loop-i.pieces
left_same c =
    elim c.loop-i-test.branch [
      | else-loop-i-test w ↦ ap pieces_left w.pieces-is
      | then-loop-i-test+in_default w ↦ ap pieces_left w.pieces-is ∙ w.in_default.ensures.steps.1 ∙ sym w.in_default.ensures.steps.0
    ]

-- where the loop ends, the array is full or nothing is left
ended : (c : goal.After-left) → (c.loop-i.i ≡ 5) ⊎ (pieces_left c.loop-i.pieces ≡ [])
ended c =
    elim c.loop-i-test.branch [
      | else-loop-i-test w ↦ inl (omega arith)
      | then-loop-i-test+in_default w ↦ inr w.in_default.ensures.steps.0
    ]

-- the pieces that stand in the array and those that are left
counted : (c : goal.After-left) → c.loop-i.i + length (pieces_left c.loop-i.pieces) ≡ c.loop-i.first + c.left.result
counted c = omega (arith, c.loop-i.invariant.0, c.left.ensures, ap length (left_same c))

pub overflow_add-result : goal.overflow_add-result
overflow_add-result c = omega (arith, counted c, c.loop-i.invariant.1.seen, parted_len tab c.args.bytes.now, c.well_formed)

pub returns : goal.returns
returns c =
    let fs = fields c.args.bytes.now in
    let xs = map (λ x. x.now) c.loop-i.at in
    record {
      first = ap (λ (n : ℕ). take n xs) (sym (counted c)) ∙ filled_all fs xs (pieces_left c.loop-i.pieces) c.loop-i.i c.loop-i.invariant.1 (ended c);
      count = sym (counted c) ∙ c.loop-i.invariant.1.seen;
      len = refl;
    }

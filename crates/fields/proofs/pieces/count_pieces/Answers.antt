use Rattle.std.proofs.Common.{length, arith}
use Rattle.std.proofs.lemmas.List.{at_drop_all}
use Rattle.fields.specs.Text.{Bytes, parted}
use Rattle.fields.proofs.Cuts.{count_yes, count_no}
use Rattle.fields.proofs.pieces.count_pieces.Goals as goal

pub loop-b-preserved : goal.loop-b-preserved
loop-b-preserved c =
    elim c.if-b-separator.branch [
      | goal.then-b-separator w ↦ let e = count_yes c.args.separator c.args.text.now c.loop-b.b-index c.loop-b-test.true w.if-b-separator.true in (omega (arith, c.loop-b.invariant.0, e, w.n-is), omega (arith, c.loop-b.invariant.1, w.n-is))
      | goal.else-b-separator w ↦ let e = count_no c.args.separator c.args.text.now c.loop-b.b-index c.loop-b-test.true w.if-b-separator.false in (omega (arith, c.loop-b.invariant.0, e, w.n-is), omega (arith, c.loop-b.invariant.1, w.n-is))
    ]

pub returns : goal.returns
returns c =
    let e = at_drop_all (λ (l : Bytes). length (parted c.args.separator l)) c.args.text.now c.loop-b.b-index c.loop-b-test.false in
    omega (arith, c.loop-b.invariant.0, e)

use Rattle.std.proofs.Common.{◌≡◌, map}
use Rattle.fields.specs.Text.{fields}
use Rattle.fields.specs.Held.{pieces_left}
use Rattle.fields.proofs.Lists.{Filled}
use Rattle.fields.proofs.line.Line.cut.Given as goal

abbrev pub invariant-loop-i : goal.invariant-loop-i
invariant-loop-i l = (l.first ≡ l.i) × Filled (fields l.bytes) (map (λ x. x.now) l.at) (pieces_left l.pieces) l.i

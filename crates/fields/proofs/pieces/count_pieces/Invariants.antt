use Rattle.std.proofs.Common.{◌≡◌, ◌+◌, ◌≤◌, length, drop}
use Rattle.fields.specs.Text.{parted}
use Rattle.fields.proofs.pieces.count_pieces.Given as goal

abbrev pub invariant-loop-b : goal.invariant-loop-b
invariant-loop-b l = (l.n + length (parted l.separator (drop l.b-index l.text)) ≡ 1 + length (parted l.separator l.text)) × (l.n ≤ l.b-index + 1)

use Rattle.theory.proofs.Tallies.{parts}
use Rattle.tally.proofs.laws.parts_hold.Goals as goal

pub returns : goal.returns
returns g c = parts g.A.Tally.algebra g.B.Tally.algebra

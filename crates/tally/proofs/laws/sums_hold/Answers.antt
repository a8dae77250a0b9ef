use Rattle.theory.proofs.Sums.{sums}
use Rattle.tally.proofs.laws.sums_hold.Goals as goal

pub returns : goal.returns
returns g c = let m = g.T.Tally in sums m.algebra m.laws

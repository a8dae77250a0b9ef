use mathlib.Core.List.{map-append}
use Rattle.theory.proofs.Sums.{sums}
use Rattle.tallycases.proofs.sums.joint_sum.Goals as goal

pub returns : goal.returns
returns g c = let m = g.T.Tally in simp (map-append, (sums m.algebra m.laws).sum_append) (cc)

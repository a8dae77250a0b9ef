use mathlib.Core.List.{map-map}
use Rattle.theory.proofs.Sums.{sums}
use Rattle.tallycases.proofs.sums.scaled_right.Goals as goal

pub returns : goal.returns
returns g c = let m = g.T.Tally in simp (c.times.ensures, c.sum.ensures, (sums m.algebra m.laws).sum_times, map-map)

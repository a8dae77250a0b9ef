use Rattle.std.proofs.Common.{arith}
use Rattle.theory.proofs.Tallies.{same}
use Rattle.tally.proofs.numbers.UpTo.new.Goals as goal

pub returns : goal.returns
returns g c = same _ _ (grind arith)

use Rattle.tally.proofs.Stands.{four_tallies}
use Rattle.tally.proofs.laws.four_tallies.Goals as goal

pub returns : goal.returns
returns c = four_tallies

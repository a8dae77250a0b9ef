use Rattle.reading.proofs.Runs.{closed_stays}
use Rattle.reading.proofs.laws.closed_stays.Goals as goal

pub returns : goal.returns
returns c = closed_stays

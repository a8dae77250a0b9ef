use Rattle.reading.proofs.Runs.{first_fault_stays}
use Rattle.reading.proofs.laws.first_fault_stays.Goals as goal

pub returns : goal.returns
returns c = first_fault_stays

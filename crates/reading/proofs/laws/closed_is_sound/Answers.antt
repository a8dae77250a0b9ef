use Rattle.reading.proofs.Runs.{closed_is_sound}
use Rattle.reading.proofs.laws.closed_is_sound.Goals as goal

pub returns : goal.returns
returns c = closed_is_sound

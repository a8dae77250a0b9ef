use Rattle.reading.proofs.Builds.{text_declares}
use Rattle.reading.proofs.laws.text_declares.Goals as goal

pub returns : goal.returns
returns c = text_declares

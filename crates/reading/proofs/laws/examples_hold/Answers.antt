use Rattle.std.proofs.Common.{refl}
use Rattle.reading.proofs.laws.examples_hold.Goals as goal

pub returns : goal.returns
returns c = record { ladder_broken = refl; ladder_kept = (_, refl); mark_broken = refl }

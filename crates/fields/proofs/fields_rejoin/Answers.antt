use Rattle.fields.specs.Text.{tab}
use Rattle.fields.proofs.Cuts.{parted_cut, cut_parted}
use Rattle.fields.proofs.fields_rejoin.Goals as goal

pub returns : goal.returns
returns c line = (parted_cut tab line, cut_parted tab line)

-- what the values of the tallies print as
use Rattle.std.specs.Prelude.{ℕ, List, codes, decimal}
use Rattle.tally.specs.declared.numbers.UpTo.{UpTo}
use Rattle.tally.specs.declared.verdicts.Answer.{Answer}
use Rattle.tally.specs.declared.verdicts.Answer.TheVariants.{No, Yes}

abbrev pub answer_text : Answer → List ℕ
answer_text No = codes "no"
answer_text Yes = codes "yes"

abbrev pub number_text : {n : ℕ} → UpTo n → List ℕ
number_text x = decimal x.value

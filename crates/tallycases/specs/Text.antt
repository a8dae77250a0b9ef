-- what the tables print of a value
use Rattle.std.specs.Prelude.{ℕ, List, ◌++◌, Option, Some, None, codes, decimal}
use Rattle.std.specs.Fmt.{◌++?◌}
use Rattle.tally.specs.declared.numbers.UpTo.{UpTo}
use Rattle.tally.specs.Text.{number_text}
use Rattle.tallycases.specs.declared.ends.Ends.{Ends}
use Rattle.tallycases.specs.declared.ends.Ends.TheVariants.{NoTree, NoMethod, Methods}

abbrev pub ends_text : Ends → List ℕ
ends_text NoTree = codes "no tree"
ends_text NoMethod = codes "no method"
ends_text (Methods first last) = decimal first ++ codes " to " ++ decimal last

abbrev pub number_or_none_text : {n : ℕ} → Option (UpTo n) → List ℕ
number_or_none_text None = codes "none"
number_or_none_text (Some x) = number_text x

-- two texts in brackets, if both are known
abbrev pub pair_text : Option (List ℕ) → Option (List ℕ) → Option (List ℕ)
pair_text first second = Some (codes "(") ++? first ++? Some (codes ", ") ++? second ++? Some (codes ")")

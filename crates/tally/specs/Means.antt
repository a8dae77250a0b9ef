-- what the values of the tallies stand for
use Rattle.std.specs.Prelude.{◌≡◌, ℕ, Bool, true, false, Option}
use Rattle.std.specs.Option.{option_map}
use Rattle.theory.specs.Tallies.{UpTo as Number}
use Rattle.tally.specs.declared.numbers.UpTo.{UpTo}
use Rattle.tally.specs.declared.verdicts.Answer.{Answer}
use Rattle.tally.specs.declared.verdicts.Answer.TheVariants.{No, Yes}

abbrev pub is_yes : Answer → Bool
is_yes No = false
is_yes Yes = true

abbrev pub number : {n : ℕ} → UpTo n → Number n
number x = record { value = x.value; within = x.within }

abbrev pub number_or_none : {n : ℕ} → Option (UpTo n) → Option (Number n)
number_or_none x = option_map number x

-- what the result means is what the two values mean, joined
abbrev pub Joins : {V M : Type 0} → (V → M) → (M → M → M) → V → V → V → Type 0
Joins means join a b result = means result ≡ join (means a) (means b)

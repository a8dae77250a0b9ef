-- what the meanings of a list of values come to
use Rattle.std.specs.Prelude.{List, map}
use Rattle.theory.specs.Algebra.{Algebra, sum, product}

abbrev pub sum_of : {V M : Type 0} → Algebra M → (V → M) → List V → M
sum_of A means values = sum A (map means values)

abbrev pub product_of : {V M : Type 0} → Algebra M → (V → M) → List V → M
product_of A means values = product A (map means values)

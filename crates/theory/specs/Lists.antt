-- what is said of every element of a list, as a fact and as a test
use Rattle.std.specs.Prelude.{Bool, true, false, List, [], ◌∷◌}
use Rattle.std.specs.List.{list_all}

abbrev pub All : {A : Type 0} → (A → Type 0) → List A → Type 0
All P [] = Unit {0}
All P (x ∷ xs) = P x × All P xs

abbrev pub all : {A : Type 0} → (A → Bool) → List A → Bool
all p xs = list_all p xs

abbrev pub implies : Bool → Bool → Bool
implies true b = b
implies false b = true

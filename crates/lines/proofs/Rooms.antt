-- a table's room, and an entry put at its end, through what the entries mean
use Rattle.std.proofs.Common.{◌≡◌, ℕ, ltb, List, [], ◌∷◌, ◌++◌, map, Ok, Err, sym, ap, ◌∙◌}
use Rattle.std.proofs.lemmas.List.{length-map}
use mathlib.Core.List.{map-append}
use Rattle.reading.specs.declared.faults.DomainFault.{DomainFault}
use Rattle.reading.specs.declared.faults.DomainFault.TheVariants.{Full}
use Rattle.reading.specs.Lines.{Check, ◌>>◌, must, room}

same_room : {A B : Type 0} (f : A → B) (xs ys : List A) (most : ℕ) → ys ≡ xs → room most (map f xs) ≡ room most ys
same_room f xs ys most e = ap (λ (n : ℕ). must (ltb n most) Full) (length-map xs f) ∙ sym (ap (room most) e)

module _ {A B C : Type 0} (f : A → B) (xs ys : List A) (most : ℕ) (x : Check C) where
  pub room_stop : {g : DomainFault} → Err g ≡ room most ys → ys ≡ xs → (room most (map f xs) >> x) ≡ Err g
  room_stop h e = ap (λ (r : Check (Unit {0})). r >> x) (same_room f xs ys most e ∙ sym h)

  pub room_goes : Ok tt ≡ room most ys → ys ≡ xs → (room most (map f xs) >> x) ≡ x
  room_goes h e = ap (λ (r : Check (Unit {0})). r >> x) (same_room f xs ys most e ∙ sym h)

pub pushed : {A B : Type 0} (f : A → B) (xs ys : List A) (y : A) → ys ≡ xs ++ y ∷ [] → map f ys ≡ map f xs ++ f y ∷ []
pushed f xs ys y e = ap (map f) e ∙ map-append f xs (y ∷ [])

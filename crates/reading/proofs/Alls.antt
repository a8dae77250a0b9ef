-- what holds of every element of a list, and of each two elements of two lists; and the tests that decide it
use Rattle.std.proofs.Common.{◌≡◌, ℕ, zero, suc, ◌<◌, List, [], ◌∷◌, ◌++◌, length, get_or, refl, ap, le_of_suc-le-suc, not-suc-le-zero}
use Rattle.theory.specs.Lists.{All}
use Rattle.reading.specs.Tables.{on_last, last_or}
use Rattle.reading.specs.Declares.{Each}

module _ {A : Type 0} (P : A → Type 0) where
  pub all-at : (xs : List A) (i : ℕ) (d : A) → All P xs → i < length xs → P (get_or xs i d)
  all-at [] i d h k = absurd (not-suc-le-zero k)
  all-at (x ∷ xs) zero d h k = h.0
  all-at (x ∷ xs) (suc i) d h k = all-at xs i d h.1 (le_of_suc-le-suc k)

  pub all_left : (xs ys : List A) → All P (xs ++ ys) → All P xs
  all_left [] ys h = tt
  all_left (x ∷ xs) ys h = (h.0, all_left xs ys h.1)

  pub all_right : (xs ys : List A) → All P (xs ++ ys) → All P ys
  all_right [] ys h = h
  all_right (x ∷ xs) ys h = all_right xs ys h.1

  pub all_both : (xs ys : List A) → All P xs → All P ys → All P (xs ++ ys)
  all_both [] ys h k = k
  all_both (x ∷ xs) ys h k = (h.0, all_both xs ys h.1 k)

  pub all_last : (f : A → A) (d : A) (xs : List A) → All P xs → (P (last_or d xs) → P (f (last_or d xs))) → All P (on_last f xs)
  all_last f d [] h k = tt
  all_last f d (x ∷ []) h k = (k h.0, tt)
  all_last f d (x ∷ y ∷ ys) h k = (h.0, all_last f x (y ∷ ys) h.1 k)

pub all_map : {A : Type 0} (P Q : A → Type 0) → ((x : A) → P x → Q x) → (xs : List A) → All P xs → All Q xs
all_map P Q f [] h = tt
all_map P Q f (x ∷ xs) h = (f x h.0, all_map P Q f xs h.1)

module _ {A B : Type 0} (R : A → B → Type 0) where
  pub each_map : (S : A → B → Type 0) → ((x : A) (y : B) → R x y → S x y) → (xs : List A) (ys : List B) → Each R xs ys → Each S xs ys
  each_map S f [] [] h = tt
  each_map S f [] (y ∷ ys) h = h
  each_map S f (x ∷ xs) [] h = h
  each_map S f (x ∷ xs) (y ∷ ys) h = (f x y h.0, each_map S f xs ys h.1)

  pub each_length : (xs : List A) (ys : List B) → Each R xs ys → length xs ≡ length ys
  each_length [] [] h = refl
  each_length [] (y ∷ ys) h = absurd h
  each_length (x ∷ xs) [] h = absurd h
  each_length (x ∷ xs) (y ∷ ys) h = ap suc (each_length xs ys h.1)

  pub each_right : (Q : B → Type 0) → ((x : A) (y : B) → R x y → Q y) → (xs : List A) (ys : List B) → Each R xs ys → All Q ys
  each_right Q f xs [] h = tt
  each_right Q f [] (y ∷ ys) h = absurd h
  each_right Q f (x ∷ xs) (y ∷ ys) h = (f x y h.0, each_right Q f xs ys h.1)

pub length_last : {A : Type 0} (f : A → A) (xs : List A) → length (on_last f xs) ≡ length xs
length_last f [] = refl
length_last f (x ∷ []) = refl
length_last f (x ∷ y ∷ ys) = ap suc (length_last f (y ∷ ys))

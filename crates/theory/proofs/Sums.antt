use Rattle.std.proofs.Common.{◌≡◌, ℕ, ◌+◌, ◌<◌, List, [], ◌∷◌, ◌++◌, map, length, get_or, take, sym, ap, ◌∙◌}
use mathlib.Core.List.{map-append}
use Rattle.std.proofs.lemmas.List.{take_more}
use Rattle.theory.specs.Algebra.{Algebra, Laws, joined, sum, product, Sums}

-- a way of joining two values that is associative and has a neutral value
pub record Monoid {V : Type 0} (join : V → V → V) (neutral : V) : Type 0 where
  pub assoc : (x y z : V) → join (join x y) z ≡ join x (join y z)
  pub left : (x : V) → join neutral x ≡ x
  pub right : (x : V) → join x neutral ≡ x

pub joined-append : {V : Type 0} {join : V → V → V} {neutral : V} → Monoid join neutral
    → (xs ys : List V) → joined join neutral (xs ++ ys) ≡ join (joined join neutral xs) (joined join neutral ys)
joined-append monoid [] ys = sym (monoid.left _)
joined-append monoid (x ∷ xs) ys = simp (joined-append monoid xs ys, monoid.assoc)

-- the turn of a loop that joins what f gives of the elements
joined-more : {V X : Type 0} {join : V → V → V} {neutral : V} → Monoid join neutral
    → (f : X → V) (xs : List X) (i : ℕ) (x : X) → i < length xs → x ≡ get_or xs i x
    → join (joined join neutral (map f (take i xs))) (f x) ≡ joined join neutral (map f (take (i + 1) xs))
joined-more monoid f xs i x within read =
    let pushed : take (i + 1) xs ≡ take i xs ++ (x ∷ []) = take_more xs i x within ∙ ap (λ y. take i xs ++ (y ∷ [])) (sym read) in
    sym (simp (pushed, map-append, joined-append monoid, monoid.right))

module _ {V : Type 0} (A : Algebra V) (laws : Laws A) where
  pub sum_monoid : Monoid A.plus A.zero
  sum_monoid = record { assoc = laws.plus_assoc; left = laws.zero_plus; right = laws.plus_zero }

  pub product_monoid : Monoid A.times A.one
  product_monoid = record { assoc = laws.times_assoc; left = laws.one_times; right = laws.times_one }

  pub sum_append : (xs ys : List V) → sum A (xs ++ ys) ≡ A.plus (sum A xs) (sum A ys)
  sum_append = joined-append sum_monoid

  pub product_append : (xs ys : List V) → product A (xs ++ ys) ≡ A.times (product A xs) (product A ys)
  product_append = joined-append product_monoid

  pub times_sum : (x : V) (ys : List V) → A.times x (sum A ys) ≡ sum A (map (A.times x) ys)
  times_sum x [] = laws.times_zero x
  times_sum x (y ∷ ys) = simp (laws.times_plus, times_sum x ys)

  pub sum_times : (xs : List V) (y : V) → A.times (sum A xs) y ≡ sum A (map (λ x. A.times x y) xs)
  sum_times [] y = laws.zero_times y
  sum_times (x ∷ xs) y = simp (laws.plus_times, sum_times xs y)

  pub sums : Sums A
  sums = record { sum_append = sum_append; product_append = product_append; times_sum = times_sum; sum_times = sum_times }

  -- the turn of a loop that adds up, and of one that multiplies
  module _ {X : Type 0} (f : X → V) (xs : List X) (i : ℕ) (x : X) (within : i < length xs) (read : x ≡ get_or xs i x) where
    pub sum_more : A.plus (sum A (map f (take i xs))) (f x) ≡ sum A (map f (take (i + 1) xs))
    sum_more = joined-more sum_monoid f xs i x within read

    pub product-more : A.times (product A (map f (take i xs))) (f x) ≡ product A (map f (take (i + 1) xs))
    product-more = joined-more product_monoid f xs i x within read

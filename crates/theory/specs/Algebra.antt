-- what the answers of a sheet are made of: values with a sum and a product
use Rattle.std.specs.Prelude.{◌≡◌, ℕ, List, [], ◌∷◌, ◌++◌, map}

-- a zero and a one among the values, and two ways to join two values
pub record Algebra (V : Type 0) : Type 0 where
  pub zero : V
  pub one : V
  pub plus : V → V → V
  pub times : V → V → V

-- the weight of a method, by the number of its task, its price and its grade
abbrev pub Weights : Type 0 → Type 0
Weights V = (task price grade : ℕ) → V

-- the laws, and no others are asked for: neither plus nor times needs to commute
pub record Laws {V : Type 0} (A : Algebra V) : Type 0 where
  pub plus_assoc : (x y z : V) → A.plus (A.plus x y) z ≡ A.plus x (A.plus y z)
  pub times_assoc : (x y z : V) → A.times (A.times x y) z ≡ A.times x (A.times y z)
  -- zero is neutral for plus and one for times, on either side
  pub zero_plus : (x : V) → A.plus A.zero x ≡ x
  pub plus_zero : (x : V) → A.plus x A.zero ≡ x
  pub one_times : (x : V) → A.times A.one x ≡ x
  pub times_one : (x : V) → A.times x A.one ≡ x
  -- zero times any value, on either side, is zero
  pub zero_times : (x : V) → A.times A.zero x ≡ A.zero
  pub times_zero : (x : V) → A.times x A.zero ≡ A.zero
  -- times distributes over plus from the left and from the right
  pub times_plus : (x y z : V) → A.times x (A.plus y z) ≡ A.plus (A.times x y) (A.times x z)
  pub plus_times : (x y z : V) → A.times (A.plus x y) z ≡ A.plus (A.times x z) (A.times y z)

-- the values of a list joined in its order; the neutral value where it is empty
abbrev pub joined : {V : Type 0} → (V → V → V) → V → List V → V
joined join neutral [] = neutral
joined join neutral (x ∷ xs) = join x (joined join neutral xs)

module _ {V : Type 0} (A : Algebra V) where
  abbrev pub sum : List V → V
  sum xs = joined A.plus A.zero xs

  abbrev pub product : List V → V
  product xs = joined A.times A.one xs

-- what sums and products over lists keep wherever the laws hold
pub record Sums {V : Type 0} (A : Algebra V) : Type 0 where
  pub sum_append : (xs ys : List V) → sum A (xs ++ ys) ≡ A.plus (sum A xs) (sum A ys)
  pub product_append : (xs ys : List V) → product A (xs ++ ys) ≡ A.times (product A xs) (product A ys)
  -- a factor goes into a sum and comes out of it, on the left and on the right
  pub times_sum : (x : V) (ys : List V) → A.times x (sum A ys) ≡ sum A (map (A.times x) ys)
  pub sum_times : (xs : List V) (y : V) → A.times (sum A xs) y ≡ sum A (map (λ x. A.times x y) xs)

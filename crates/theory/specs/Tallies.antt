-- the four algebras that a sheet is asked by, and the pair of two
use Rattle.std.specs.Prelude.{◌≡◌, ℕ, ◌+◌, ◌*◌, ◌≤◌, min, Bool, true, false, cond, ◌&&◌, ◌||◌, List, map, Some, None, Option, nat_le}
use Rattle.std.proofs.Math.Nat.{min-le_right}
use Rattle.theory.specs.Algebra.{Algebra, Weights, sum, product}

-- a number up to the top n
pub record UpTo (n : ℕ) : Type 0 where
  pub value : ℕ
  pub within : value ≤ n

-- any number, stopping at the top
abbrev pub stop : (n m : ℕ) → UpTo n
stop n m = record { value = min m n; within = min-le_right m n }

module _ {n : ℕ} where
  -- the sum and the product of two, stopping at the top
  abbrev pub added : UpTo n → UpTo n → UpTo n
  added x y = stop n (x.value + y.value)

  abbrev pub multiplied : UpTo n → UpTo n → UpTo n
  multiplied x y = stop n (x.value * y.value)

  -- the smaller and the larger of two
  abbrev pub smaller : UpTo n → UpTo n → UpTo n
  smaller x y = cond (nat_le x.value y.value) x y

  abbrev pub larger : UpTo n → UpTo n → UpTo n
  larger x y = cond (nat_le x.value y.value) y x

  -- the lower of two, none being higher than every number
  abbrev pub lower : Option (UpTo n) → Option (UpTo n) → Option (UpTo n)
  lower None y = y
  lower (Some x) None = Some x
  lower (Some x) (Some y) = Some (smaller x y)

  -- two numbers joined; none if either is none
  abbrev pub both : (UpTo n → UpTo n → UpTo n) → Option (UpTo n) → Option (UpTo n) → Option (UpTo n)
  both join None y = None
  both join (Some x) None = None
  both join (Some x) (Some y) = Some (join x y)

-- the tops of counts, prices and grades
abbrev pub top_count : ℕ
top_count = 1000000

abbrev pub top_price : ℕ
top_price = 1000000000

abbrev pub top_grade : ℕ
top_grade = 9

-- no and yes: is there a valid tree?
abbrev pub verdicts : Algebra Bool
verdicts = record { zero = false; one = true; plus = ◌||◌; times = ◌&&◌ }

abbrev pub verdict_weight : Weights Bool
verdict_weight task price grade = true

-- how many valid trees are there?
abbrev pub counts : Algebra (UpTo top_count)
counts = record { zero = stop top_count 0; one = stop top_count 1; plus = added; times = multiplied }

abbrev pub count_weight : Weights (UpTo top_count)
count_weight task price grade = stop top_count 1

-- none, or the lowest price of a valid tree; the prices of a tree's methods are added up
abbrev pub prices : Algebra (Option (UpTo top_price))
prices = record { zero = None; one = Some (stop top_price 0); plus = lower; times = both added }

abbrev pub price_weight : Weights (Option (UpTo top_price))
price_weight task price grade = Some (stop top_price price)

-- none, or the lowest grade that allows a valid tree; a tree asks for the highest grade of its methods
abbrev pub grades : Algebra (Option (UpTo top_grade))
grades = record { zero = None; one = Some (stop top_grade 0); plus = lower; times = both larger }

abbrev pub grade_weight : Weights (Option (UpTo top_grade))
grade_weight task price grade = Some (stop top_grade grade)

-- two algebras side by side, part by part
abbrev pub pair_of : {V W : Type 0} → Algebra V → Algebra W → Algebra (V × W)
pair_of A B =
    record {
      zero = (A.zero, B.zero);
      one = (A.one, B.one);
      plus = λ x y. (A.plus x.0 y.0, B.plus x.1 y.1);
      times = λ x y. (A.times x.0 y.0, B.times x.1 y.1);
    }

abbrev pub pair_weight : {V W : Type 0} → Weights V → Weights W → Weights (V × W)
pair_weight v w task price grade = (v task price grade, w task price grade)

-- sums and products of pairs are pairs of sums and products
pub record Parts {V W : Type 0} (A : Algebra V) (B : Algebra W) : Type 0 where
  pub sum_parts : (xs : List (V × W)) → sum (pair_of A B) xs ≡ (sum A (map (λ x. x.0) xs), sum B (map (λ x. x.1) xs))
  pub product_parts : (xs : List (V × W))
      → product (pair_of A B) xs ≡ (product A (map (λ x. x.0) xs), product B (map (λ x. x.1) xs))

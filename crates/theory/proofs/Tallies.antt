-- The laws of the four algebras, and of two side by side.
use Rattle.std.proofs.Common.{◌≡◌, ℕ, ◌*◌, ◌≤◌, min, List, [], ◌∷◌, map, Some, None, refl, mul-le-mul_right, mul_assoc, mul_comm, add-mul, mul-add, le-mul_of_pos_right, arith}
use Rattle.std.proofs.Math.Bool.{or_assoc, and_assoc, false-or, or-false, true-and, and-true, false-and, and-false, and-or_distrib_left, and-or_distrib_right}
use mathlib.Core.HLevel.{is_prop→PathP}
use mathlib.Core.List.{map-map}
use native.Mathlib.Bridge.{le_prop}
use Rattle.std.proofs.lemmas.Bool.Decides.{nat_tests}
use Rattle.theory.specs.Algebra.{Algebra, Laws, joined, sum, product}
use Rattle.theory.specs.Tallies.{UpTo, stop, added, smaller, larger, lower, both, verdicts, counts, prices, grades, pair_of, Parts}

-- two numbers up to n are the same where their values are
pub same : {n : ℕ} (x y : UpTo n) → x.value ≡ y.value → x ≡ y
same {n} x y p = λ i. record { value = p i; within = is_prop→PathP (λ j. p j ≤ n) (λ j. le_prop) x.within y.within i }

pub verdicts_laws : Laws verdicts
verdicts_laws = record {
  plus_assoc = or_assoc;
  times_assoc = and_assoc;
  zero_plus = false-or;
  plus_zero = or-false;
  one_times = true-and;
  times_one = and-true;
  zero_times = false-and;
  times_zero = and-false;
  times_plus = and-or_distrib_left;
  plus_times = and-or_distrib_right;
}

-- a factor may be stopped first
mul_stop : (n a c : ℕ) → min (min a n * c) n ≡ min (a * c) n
mul_stop n a c = grind (arith, mul-le-mul_right, le-mul_of_pos_right)

stop_mul : (n a c : ℕ) → min (c * min a n) n ≡ min (c * a) n
stop_mul n a c = simp (mul_comm c) (mul_stop n a c)

pub counts_laws : Laws counts
counts_laws = record {
  plus_assoc = λ x y z. same _ _ (omega arith);
  times_assoc = λ x y z. same _ _ (simp (mul_stop, stop_mul, mul_assoc));
  zero_plus = λ x. same _ _ (omega arith);
  plus_zero = λ x. same _ _ (omega arith);
  one_times = λ x. same _ _ (omega arith);
  times_one = λ x. same _ _ (omega arith);
  zero_times = λ x. same _ _ (omega arith);
  times_zero = λ x. same _ _ (omega arith);
  times_plus = λ x y z. same _ _ (simp (stop_mul, mul-add) (omega arith));
  plus_times = λ x y z. same _ _ (simp (mul_stop, add-mul) (omega arith));
}

-- what a way of joining two numbers has to keep, so that with the lower of two it keeps the laws
record Joins {n : ℕ} (unit : UpTo n) (join : UpTo n → UpTo n → UpTo n) : Type 0 where
  assoc : (x y z : UpTo n) → join (join x y) z ≡ join x (join y z)
  left : (x : UpTo n) → join unit x ≡ x
  right : (x : UpTo n) → join x unit ≡ x
  over_left : (x y z : UpTo n) → join x (smaller y z) ≡ smaller (join x y) (join x z)
  over_right : (x y z : UpTo n) → join (smaller x y) z ≡ smaller (join x z) (join y z)

module _ {n : ℕ} where
  -- the lower of two, none being highest, over any way of joining two numbers
  lowest_laws : {unit : UpTo n} {join : UpTo n → UpTo n → UpTo n} → Joins unit join
      → Laws (record { zero = None; one = Some unit; plus = lower; times = both join })
  lowest_laws joins = record {
    plus_assoc = λ x y z. grind (arith, nat_tests, same);
    times_assoc = λ x y z. grind (arith, joins.assoc);
    zero_plus = λ x. refl;
    plus_zero = λ x. grind arith;
    one_times = λ x. grind (arith, joins.left);
    times_one = λ x. grind (arith, joins.right);
    zero_times = λ x. refl;
    times_zero = λ x. grind arith;
    times_plus = λ x y z. grind (arith, joins.over_left);
    plus_times = λ x y z. grind (arith, joins.over_right);
  }

  added_joins : Joins (stop n 0) added
  added_joins = record {
    assoc = λ x y z. same _ _ (omega arith);
    left = λ x. same _ _ (omega arith);
    right = λ x. same _ _ (omega arith);
    over_left = λ x y z. same _ _ (grind (arith, nat_tests));
    over_right = λ x y z. same _ _ (grind (arith, nat_tests));
  }

  larger_joins : Joins (stop n 0) larger
  larger_joins = record {
    assoc = λ x y z. same _ _ (grind (arith, nat_tests));
    left = λ x. same _ _ (grind (arith, nat_tests));
    right = λ x. same _ _ (grind (arith, nat_tests));
    over_left = λ x y z. same _ _ (grind (arith, nat_tests));
    over_right = λ x y z. same _ _ (grind (arith, nat_tests));
  }

pub prices_laws : Laws prices
prices_laws = lowest_laws added_joins

pub grades_laws : Laws grades
grades_laws = lowest_laws larger_joins

-- the laws of two side by side come from theirs
module _ {V W : Type 0} {A : Algebra V} {B : Algebra W} (a : Laws A) (b : Laws B) where
  pub pair_laws : Laws (pair_of A B)
  pair_laws = record {
    plus_assoc = λ x y z. simp (a.plus_assoc, b.plus_assoc);
    times_assoc = λ x y z. simp (a.times_assoc, b.times_assoc);
    zero_plus = λ x. simp (a.zero_plus, b.zero_plus);
    plus_zero = λ x. simp (a.plus_zero, b.plus_zero);
    one_times = λ x. simp (a.one_times, b.one_times);
    times_one = λ x. simp (a.times_one, b.times_one);
    zero_times = λ x. simp (a.zero_times, b.zero_times);
    times_zero = λ x. simp (a.times_zero, b.times_zero);
    times_plus = λ x y z. simp (a.times_plus, b.times_plus);
    plus_times = λ x y z. simp (a.plus_times, b.plus_times);
  }

-- pairs joined part by part
joined_parts : {V W : Type 0} (p : V → V → V) (d : V) (q : W → W → W) (e : W) (xs : List (V × W))
    → joined (λ x y. (p x.0 y.0, q x.1 y.1)) (d, e) xs ≡ (joined p d (map (λ x. x.0) xs), joined q e (map (λ x. x.1) xs))
joined_parts p d q e [] = refl
joined_parts p d q e (x ∷ xs) = cc (joined_parts p d q e xs)

pub parts : {V W : Type 0} (A : Algebra V) (B : Algebra W) → Parts A B
parts A B = record { sum_parts = joined_parts A.plus A.zero B.plus B.zero; product_parts = joined_parts A.times A.one B.times B.one }

-- pairs of what f and g give of the elements
module _ {V W : Type 0} (A : Algebra V) (B : Algebra W) where
  pub sum_pairs : {X : Type 0} (f : X → V) (g : X → W) (xs : List X)
      → sum (pair_of A B) (map (λ x. (f x, g x)) xs) ≡ (sum A (map f xs), sum B (map g xs))
  sum_pairs f g xs = simp map-map at ((parts A B).sum_parts (map (λ x. (f x, g x)) xs))

  pub product_pairs : {X : Type 0} (f : X → V) (g : X → W) (xs : List X)
      → product (pair_of A B) (map (λ x. (f x, g x)) xs) ≡ (product A (map f xs), product B (map g xs))
  product_pairs f g xs = simp map-map at ((parts A B).product_parts (map (λ x. (f x, g x)) xs))

use Rattle.std.proofs.Common.{◌≡◌, ℕ, Bool, true, false, Option, option_map, refl, arith}
use Rattle.theory.specs.Algebra.{Algebra, Weights}
use Rattle.theory.specs.Tallies.{UpTo as Number}
use Rattle.tally.specs.declared.numbers.UpTo.{UpTo}
use Rattle.tally.specs.declared.verdicts.Answer.{Answer}
use Rattle.tally.specs.declared.verdicts.Answer.TheVariants.{No, Yes}
use Rattle.tally.specs.Means.{is_yes, number, number_or_none}
use Rattle.tally.specs.Stands.{Stands, FourTallies}

-- a tally whose meanings have a way back stands for its algebra
stands : {S V M : Type 0} {A : Algebra M} {w : Weights M} (means : V → M) (back : M → V)
    → ((x : V) → back (means x) ≡ x) → ((m : M) → means (back m) ≡ m) → Stands {S = S} A w A (λ s. w) means
stands means back there again = record {
  algebra_is = refl;
  weights_are = λ s. refl;
  one_to_one = λ x y p. cc (there x, there y);
  each = λ m. (back m, again m);
}

-- the value that means it
abbrev answer : Bool → Answer
answer true = Yes
answer false = No

abbrev held : {n : ℕ} → Number n → UpTo n
held m = record { value = m.value; within = m.within }

-- what undoes a function on values undoes it where there may be none
undone : {A B : Type 0} (f : A → B) (g : B → A) → ((x : A) → g (f x) ≡ x) → (o : Option A) → option_map g (option_map f o) ≡ o
undone f g h o = grind (arith, h)

pub four_tallies : FourTallies
four_tallies = record {
  verdict = stands is_yes answer (λ x. grind arith) (λ m. grind arith);
  count = stands number held (λ x. refl) (λ m. refl);
  price = stands number_or_none (option_map held) (undone number held (λ x. refl)) (undone held number (λ m. refl));
  grade = stands number_or_none (option_map held) (undone number held (λ x. refl)) (undone held number (λ m. refl));
}

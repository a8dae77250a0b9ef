-- that the four tallies are the four algebras
use Rattle.std.specs.Prelude.{◌≡◌}
use Rattle.theory.specs.Algebra.{Algebra, Weights}
use Rattle.theory.specs.Tallies.{verdicts, verdict_weight, counts, count_weight, prices, price_weight, grades, grade_weight}
use Rattle.tally.specs.contracts.verdicts.tally.VerdictTally.TheImpl as verdict
use Rattle.tally.specs.contracts.counts.CountTally.TheImpl as count
use Rattle.tally.specs.contracts.prices.PriceTally.TheImpl as price
use Rattle.tally.specs.contracts.grades.GradeTally.TheImpl as grade

-- A tally with values in V and meanings in M stands for the algebra A with the weights w, value by value:
-- two values that mean the same are the same, and each mathematical value is the meaning of a value.
pub record Stands {S V M : Type 0} (A : Algebra M) (w : Weights M) (algebra : Algebra M) (weighs : S → Weights M)
    (means : V → M) : Type 0 where
  pub algebra_is : algebra ≡ A
  pub weights_are : (s : S) → weighs s ≡ w
  pub one_to_one : (x y : V) → means x ≡ means y → x ≡ y
  pub each : (m : M) → (x : V) × (means x ≡ m)

pub record FourTallies : Type 0 where
  pub verdict : Stands verdicts verdict_weight (verdict.ghosts).algebra (verdict.ghosts).weighs (verdict.ghosts).means
  pub count : Stands counts count_weight (count.ghosts).algebra (count.ghosts).weighs (count.ghosts).means
  pub price : Stands prices price_weight (price.ghosts).algebra (price.ghosts).weighs (price.ghosts).means
  pub grade : Stands grades grade_weight (grade.ghosts).algebra (grade.ghosts).weighs (grade.ghosts).means

-- The laws of the first tree's ends.
use Rattle.std.proofs.Common.{arith}
use Rattle.theory.specs.Algebra.{Laws}
use Rattle.tallycases.specs.Ends.{ends}

pub ends_laws : Laws ends
ends_laws = record {
  plus_assoc = λ x y z. grind arith;
  times_assoc = λ x y z. grind arith;
  zero_plus = λ x. grind arith;
  plus_zero = λ x. grind arith;
  one_times = λ x. grind arith;
  times_one = λ x. grind arith;
  zero_times = λ x. grind arith;
  times_zero = λ x. grind arith;
  times_plus = λ x y z. grind arith;
  plus_times = λ x y z. grind arith;
}

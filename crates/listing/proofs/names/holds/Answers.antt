use Rattle.std.proofs.Common.{◌≡◌, ◌≤◌, ◌/◌, ◌^◌, pow_mono, lt_of_lt_of_le, arith}
use Rattle.std.proofs.lemmas.Grind.{common_steps}
use Rattle.std.proofs.Math.Nat.{div-eq_of_lt}
use Rattle.listing.proofs.names.holds.Goals as goal

pub returns-else-fact-lt64 : goal.returns-else-fact-lt64
returns-else-fact-lt64 c =
    let past : 64 ≤ c.args.fact = omega arith in
    let none : c.args.set / 2 ^ c.args.fact ≡ 0 = div-eq_of_lt (lt_of_lt_of_le (omega arith) (pow_mono past)) in
    rw none (grind (arith, common_steps))

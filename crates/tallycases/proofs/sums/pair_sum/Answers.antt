use Rattle.std.proofs.Common.{ap, ◌∙◌}
use mathlib.Core.List.{map-map}
use Rattle.theory.proofs.Tallies.{parts}
use Rattle.tallycases.proofs.sums.pair_sum.Goals as goal

pub returns : goal.returns
returns g c =
    let apart = simp map-map at (c.sum.ensures ∙ (parts g.A.Tally.algebra g.B.Tally.algebra).sum_parts _) in
    record { first = ap (λ x. x.0) apart; second = ap (λ x. x.1) apart }

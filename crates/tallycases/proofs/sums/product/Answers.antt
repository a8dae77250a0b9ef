use Rattle.std.proofs.Common.{rules}
use Rattle.theory.proofs.Sums.{product_monoid}
use Rattle.tallycases.proofs.Lists.{fold_joins}
use Rattle.tallycases.proofs.sums.product.Goals as goal

pub returns : goal.returns
returns g c =
    let m = g.T.Tally in
    cc (fold_joins m.means (product_monoid m.algebra m.laws) _ _ (λ a x b f called. (search rules, search rules)) _ _ _ c.one.ensures c.fold.ensures.ran)

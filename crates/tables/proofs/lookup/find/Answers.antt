use Rattle.std.proofs.Common.{rules, ◌∙◌}
use borrow.Author.Tests.{tests}
use Rattle.std.specs.Str.{bytes_eq}
use Rattle.std.proofs.lemmas.Iterator.{YieldsList-from_slice}
use Rattle.std.proofs.lemmas.Iterator.Search.{position_from_yields_List}
use Rattle.tables.proofs.Indices.{position_is}
use Rattle.tables.proofs.lookup.find.Goals as goal

-- the place that the library's search finds is the entry's number, whatever the function then makes of it
pub returns : goal.returns
returns g c =
    let place =
    position_from_yields_List (λ x. bytes_eq (g.T.Named.text x) c.args.name.now) _ _ _ c.position.ensures.ran (YieldsList-from_slice c.args.items.now (cc)) (λ x b q k. search (rules, tests))
    ∙ position_is g.T.Named.text c.args.name.now c.args.items.now in
    search (rules, place)

use Rattle.std.proofs.Common.{rules, refl}
use borrow.Author.Tests.{tests}
use Rattle.std.proofs.lemmas.Iterator.Consumers.{YieldsList-from_first}
use Rattle.std.proofs.lemmas.Iterator.Search.{all_from_yields_List}
use Rattle.fields.specs.Text.{name_form}
use Rattle.fields.specs.Held.{pieces_left}
use Rattle.fields.proofs.line.all_names.Goals as goal

pub returns : goal.returns
returns c =
    all_from_yields_List name_form c.all.new.self _ _ c.all.ensures.ran (YieldsList-from_first (λ x. x.now) pieces_left {s = c.args.pieces} (pieces_left c.args.pieces) refl)
    (λ x b q k. search (rules, tests))

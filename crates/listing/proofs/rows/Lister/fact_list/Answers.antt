use Rattle.std.proofs.Common.{arith}
use Rattle.std.proofs.lemmas.Grind.{common_steps}
use Rattle.fields.specs.Held.{name_text}
use Rattle.listing.specs.Texts.{listed}
use Rattle.listing.proofs.Texts.{chosen_at}
use Rattle.listing.proofs.rows.Lister.fact_list.Goals as goal
use Rattle.listing.proofs.rows.Lister.fact_list.Goals.{then-holds+in_ok-push_name, else-holds}

pub loop-fact-preserved : goal.loop-fact-preserved
loop-fact-preserved c =
    let t = listed c.args.self in
    let here = chosen_at c.args.set c.loop-fact.fact t.facts (name_text c.name-item.result) (grind (arith, common_steps)) (grind (arith, common_steps)) in
    elim c.if-holds.branch [
      | then-holds+in_ok-push_name w ↦ grind (arith, common_steps)
      | else-holds w ↦ grind (arith, common_steps)
    ]

use Rattle.std.proofs.Common.{arith}
use Rattle.std.proofs.lemmas.Grind.{common_steps}
use Rattle.fields.specs.Held.{name_text}
use Rattle.tables.specs.Held.{action_entry, task_entry, method_entry}
use Rattle.domain.specs.Held.{domain_tables}
use Rattle.listing.specs.Listing.{fact_row, action_row, task_row, method_rows}
use Rattle.listing.proofs.Texts.{numbered-map}
use Rattle.listing.proofs.listing.list_domain.Goals as goal

pub returns : goal.returns
returns c =
    let t = domain_tables c.args.domain.now in
    let facts = numbered-map fact_row name_text 0 c.facts.result.now in
    let actions = numbered-map (action_row t) action_entry 0 c.actions.result.now in
    let tasks = numbered-map task_row task_entry 0 c.tasks.result.now in
    let methods = numbered-map (method_rows t) method_entry 0 c.methods.result.now in
    grind (arith, common_steps)

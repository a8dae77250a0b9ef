use Rattle.std.proofs.Common.{vec_items, arith}
use Rattle.std.proofs.lemmas.Grind.{common_steps}
use Rattle.tables.proofs.Names.{symbol_in_lem}
use Rattle.lines.proofs.filled.Tables.symbol.Goals as goal

-- the action or the task that has the name asked for, whatever the function then looks up
pub returns : goal.returns
returns c =
    let named = symbol_in_lem (vec_items c.args.self.now.actions) (vec_items c.args.self.now.tasks) c.args.name.now in
    grind (arith, common_steps)

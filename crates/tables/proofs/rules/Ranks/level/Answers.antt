use Rattle.std.proofs.Common.{rules}
use Rattle.tables.proofs.Ranks.{asked}
use Rattle.tables.proofs.rules.Ranks.level.Goals as goal

pub returns : goal.returns
returns c = asked c.args.self.tasks.now c.args.t (λ k. k.level) c.map_or.result c.get.result _ c.get.ensures.lookup.0 c.get.ensures.lookup.1 c.map_or.ensures (λ x p. search rules)

use Rattle.std.proofs.Common.{rules, sym, ap, ◌∙◌}
use Rattle.theory.specs.Rules.{vanishes}
use Rattle.tables.specs.Held.{task_ranks}
use Rattle.tables.proofs.Ranks.{asked}
use Rattle.tables.proofs.rules.Ranks.vanishes.Goals as goal

pub returns-in-Compound : goal.returns-in-Compound
returns-in-Compound c =
    asked c.args.self.tasks.now c.in-Compound.t (λ k. k.vanish) c.is_some_and.result c.get.result _ c.get.ensures.lookup.0 c.get.ensures.lookup.1 c.is_some_and.ensures (λ x p. search rules)
    ∙ sym (ap (vanishes (task_ranks c.args.self.tasks.now)) c.in-Compound.is)

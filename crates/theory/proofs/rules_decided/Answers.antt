use Rattle.theory.proofs.Rules.{rules_decided}
use Rattle.theory.proofs.rules_decided.Goals as goal

pub returns : goal.returns
returns c = rules_decided

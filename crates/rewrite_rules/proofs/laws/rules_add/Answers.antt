use Rattle.rewrite_rules.proofs.AddLemmas.{rules-add}
use Rattle.rewrite_rules.proofs.laws.rules_add.Goals as goal

pub returns : goal.returns
returns c = rules-add

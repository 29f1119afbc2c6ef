use Rattle.rewrite_rules.proofs.AgainLemmas.{again-once}
use Rattle.rewrite_rules.proofs.laws.again_is_once.Goals as goal

pub returns : goal.returns
returns c = again-once

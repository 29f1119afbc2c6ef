use Rattle.rewrite_rules.proofs.MoveLemmas.{chosen-moved}
use Rattle.rewrite_rules.proofs.laws.chosen_is_moved.Goals as goal

pub returns : goal.returns
returns c = chosen-moved

use Rattle.rewrite_rules.proofs.MoveLemmas.{distinct-stay}
use Rattle.rewrite_rules.proofs.laws.distinct_values_stay.Goals as goal

pub returns : goal.returns
returns c = distinct-stay

use Rattle.user_dict.proofs.OutcomeLemmas.{taken-outcomes}
use Rattle.user_dict.proofs.laws.rows_and_skips_are_filters.Goals as goal

pub returns : goal.returns
returns c = taken-outcomes

use Rattle.run_meaning.proofs.VersionLemmas.{last_is_used, taken_are_used}
use Rattle.run_meaning.proofs.version.the_last_take_is_used.Goals as goal

pub returns-clause-step : goal.returns-clause-step
returns-clause-step c = taken_are_used

pub returns-clause-last : goal.returns-clause-last
returns-clause-last c = last_is_used

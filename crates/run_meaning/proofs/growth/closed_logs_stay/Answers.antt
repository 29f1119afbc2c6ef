use Rattle.run_meaning.proofs.GrowthLemmas.{closed_is_full, closed_stays}
use Rattle.run_meaning.proofs.growth.closed_logs_stay.Goals as goal

pub returns-clause-full : goal.returns-clause-full
returns-clause-full c = closed_is_full

pub returns-clause-stays : goal.returns-clause-stays
returns-clause-stays c = closed_stays

use Rattle.run_meaning.proofs.GrowthLemmas.{logs_grow}
use Rattle.run_meaning.proofs.growth.logs_grow.Goals as goal

pub returns : goal.returns
returns c = logs_grow

use Rattle.run_meaning.proofs.FinalLemmas.{run_is_complete}
use Rattle.run_meaning.proofs.order.run_is_complete.Goals as goal

pub returns : goal.returns
returns c = run_is_complete

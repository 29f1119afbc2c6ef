use Rattle.run_meaning.proofs.FinalLemmas.{waits_end}
use Rattle.run_meaning.proofs.order.waits_of_a_run_end.Goals as goal

pub returns : goal.returns
returns c = waits_end

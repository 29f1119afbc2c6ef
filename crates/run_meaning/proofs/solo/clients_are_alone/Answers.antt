use Rattle.run_meaning.proofs.SoloLemmas.{clients_are_alone}
use Rattle.run_meaning.proofs.solo.clients_are_alone.Goals as goal

pub returns : goal.returns
returns c = clients_are_alone

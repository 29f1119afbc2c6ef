use Rattle.session_meaning.proofs.StepLemmas.{takes-step}
use Rattle.session_meaning.proofs.laws.takes_come_first.Goals as goal

pub returns : goal.returns
returns c = takes-step

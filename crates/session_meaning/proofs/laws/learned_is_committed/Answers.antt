use Rattle.session_meaning.proofs.StepLemmas.{learned-step}
use Rattle.session_meaning.proofs.laws.learned_is_committed.Goals as goal

pub returns : goal.returns
returns c = learned-step

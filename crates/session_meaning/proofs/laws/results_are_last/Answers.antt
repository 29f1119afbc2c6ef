use Rattle.session_meaning.proofs.StepLemmas.{last-step}
use Rattle.session_meaning.proofs.laws.results_are_last.Goals as goal

pub returns : goal.returns
returns c = last-step

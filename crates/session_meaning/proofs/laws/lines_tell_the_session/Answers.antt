use Rattle.session_meaning.proofs.StepLemmas.{mode-step, version-step}
use Rattle.session_meaning.proofs.laws.lines_tell_the_session.Goals as goal

pub returns-clause-mode : goal.returns-clause-mode
returns-clause-mode c = mode-step

pub returns-clause-version : goal.returns-clause-version
returns-clause-version c = version-step

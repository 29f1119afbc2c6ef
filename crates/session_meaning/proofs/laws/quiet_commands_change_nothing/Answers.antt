use Rattle.session_meaning.proofs.StepLemmas.{quiet-step}
use Rattle.session_meaning.proofs.laws.quiet_commands_change_nothing.Goals as goal

pub returns : goal.returns
returns c = quiet-step

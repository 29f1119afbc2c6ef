use Rattle.session_meaning.proofs.CompositionLemmas.{resize-step}
use Rattle.session_meaning.proofs.reached.resizes_keep_the_focus.Goals as goal

pub returns : goal.returns
returns c = resize-step

use Rattle.session_meaning.proofs.CompositionLemmas.{escape-step}
use Rattle.session_meaning.proofs.reached.escape_shows_the_composition.Goals as goal

pub returns : goal.returns
returns c = escape-step

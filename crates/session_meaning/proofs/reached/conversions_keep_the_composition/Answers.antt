use Rattle.session_meaning.proofs.CompositionLemmas.{composition-stays}
use Rattle.session_meaning.proofs.reached.conversions_keep_the_composition.Goals as goal

pub returns : goal.returns
returns c = composition-stays

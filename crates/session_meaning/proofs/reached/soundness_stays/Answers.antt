use Rattle.session_meaning.proofs.SoundLemmas.{sound-step}
use Rattle.session_meaning.proofs.reached.soundness_stays.Goals as goal

pub returns : goal.returns
returns c = sound-step

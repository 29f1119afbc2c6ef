use Rattle.session_meaning.proofs.SoundLemmas.{sound-reached}
use Rattle.session_meaning.proofs.reached.reached_sessions_are_sound.Goals as goal

pub returns : goal.returns
returns c = sound-reached

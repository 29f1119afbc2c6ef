use Rattle.session_meaning.proofs.SoundLemmas.{resized-bounds}
use Rattle.session_meaning.proofs.reached.resized_bounds_are_bounds.Goals as goal

pub returns : goal.returns
returns c = resized-bounds

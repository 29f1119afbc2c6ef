use Rattle.session_meaning.proofs.LearnedKeys.{learned-keys}
use Rattle.session_meaning.proofs.reached.learned_keys_are_the_reading.Goals as goal

pub returns : goal.returns
returns c = learned-keys

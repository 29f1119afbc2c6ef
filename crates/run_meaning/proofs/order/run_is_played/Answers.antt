use Rattle.run_meaning.proofs.MadeLemmas.{run_is_played}
use Rattle.run_meaning.proofs.order.run_is_played.Goals as goal

pub returns : goal.returns
returns c = run_is_played

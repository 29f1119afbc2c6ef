use Rattle.run_meaning.proofs.LogAnswers.{newest_is_highest}
use Rattle.run_meaning.proofs.log.newest_is_highest.Goals as goal

pub returns : goal.returns
returns c = newest_is_highest

use Rattle.conversion_meaning.proofs.BestLemmas.{IsBest-one}
use Rattle.conversion_meaning.proofs.best.best_is_one.Goals as goal

pub returns : goal.returns
returns c = IsBest-one

use Rattle.conversion_meaning.proofs.BestLemmas.{IsBest-in}
use Rattle.conversion_meaning.proofs.best.one_is_best.Goals as goal

pub returns : goal.returns
returns c = IsBest-in

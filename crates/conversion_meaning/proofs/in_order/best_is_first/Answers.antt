use Rattle.conversion_meaning.proofs.BestLemmas.{AreForward-from_well}
use Rattle.conversion_meaning.proofs.InOrderLemmas.{IsBest-is_first}
use Rattle.conversion_meaning.proofs.in_order.best_is_first.Goals as goal

pub returns : goal.returns
returns c = λ d l span path well best.
    IsBest-is_first d l.entries span (AreForward-from_well d l well) path best

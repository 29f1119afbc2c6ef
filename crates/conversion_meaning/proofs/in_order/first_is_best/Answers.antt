use Rattle.conversion_meaning.proofs.InOrderLemmas.{IsBest-best_path}
use Rattle.conversion_meaning.proofs.in_order.first_is_best.Goals as goal

pub returns : goal.returns
returns c = IsBest-best_path

use Rattle.conversion_meaning.proofs.Recurrence.{IsLeastCost-from_best}
use Rattle.conversion_meaning.proofs.best.best_gives_least_cost.Goals as goal

pub returns : goal.returns
returns _ = IsLeastCost-from_best

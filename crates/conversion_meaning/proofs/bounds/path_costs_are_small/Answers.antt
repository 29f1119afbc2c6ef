use Rattle.conversion_meaning.proofs.CostBounds.{IsWithin-path_cost}
use Rattle.conversion_meaning.proofs.bounds.path_costs_are_small.Goals as goal

pub returns : goal.returns
returns _ = IsWithin-path_cost

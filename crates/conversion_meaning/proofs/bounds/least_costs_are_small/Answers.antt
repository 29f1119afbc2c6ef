use Rattle.conversion_meaning.proofs.CostBounds.{IsWithin-least}
use Rattle.conversion_meaning.proofs.bounds.least_costs_are_small.Goals as goal

pub returns : goal.returns
returns _ = IsWithin-least

use Rattle.conversion_meaning.specs.InOrder.{paths_in_order}
use Rattle.conversion_meaning.specs.Order.{IsBefore}
use Rattle.conversion_meaning.proofs.InOrderLemmas.{Rises-paths_in_order}
use Rattle.conversion_meaning.proofs.Lists.{AllPairs-from_rises}
use Rattle.conversion_meaning.proofs.in_order.in_order_rises.Goals as goal

pub returns : goal.returns
returns c = λ d es span.
    AllPairs-from_rises (IsBefore d es span) (paths_in_order d es span) (Rises-paths_in_order d es span)

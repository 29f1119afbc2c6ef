use Rattle.conversion_meaning.specs.InOrder.{paths_in_order}
use Rattle.conversion_meaning.specs.Paths.{IsPathOver}
use Rattle.conversion_meaning.proofs.InOrderLemmas.{from_paths_in_order}
use Rattle.conversion_meaning.proofs.Lists.{All-from_among}
use Rattle.conversion_meaning.proofs.in_order.in_order_are_paths.Goals as goal

pub returns : goal.returns
returns c = λ d es span.
    All-from_among (IsPathOver es span) (paths_in_order d es span) (from_paths_in_order d es span)

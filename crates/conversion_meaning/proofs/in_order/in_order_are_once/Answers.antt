use Rattle.conversion_meaning.proofs.InOrderLemmas.{AllPairs-once}
use Rattle.conversion_meaning.proofs.in_order.in_order_are_once.Goals as goal

pub returns : goal.returns
returns c = AllPairs-once

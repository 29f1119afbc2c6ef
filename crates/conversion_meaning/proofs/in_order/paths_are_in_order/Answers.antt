use Rattle.conversion_meaning.specs.InOrder.{paths_in_order}
use Rattle.conversion_meaning.proofs.BestLemmas.{AreForward-from_well}
use Rattle.conversion_meaning.proofs.InOrderLemmas.{Among-paths_in_order, Contains-from_among}
use Rattle.conversion_meaning.proofs.in_order.paths_are_in_order.Goals as goal

pub returns : goal.returns
returns c = λ d l span path well joined.
    Contains-from_among (paths_in_order d l.entries span) path (Among-paths_in_order d l.entries span (AreForward-from_well d l well) path joined)

use Rattle.conversion_meaning.proofs.LatticeLemmas.{IsCursor-from_first}
use Rattle.conversion_meaning.proofs.lattices.cursors_are_first.Goals as goal

pub returns : goal.returns
returns _ = IsCursor-from_first

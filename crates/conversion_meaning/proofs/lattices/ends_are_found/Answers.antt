use Rattle.conversion_meaning.proofs.LatticeLemmas.{end_found}
use Rattle.conversion_meaning.proofs.lattices.ends_are_found.Goals as goal

pub returns : goal.returns
returns _ = end_found

use Rattle.conversion_meaning.proofs.LatticeLemmas.{ordinals_in-whole}
use Rattle.conversion_meaning.proofs.lattices.whole_has_all.Goals as goal

pub returns : goal.returns
returns _ = ordinals_in-whole

use Rattle.conversion_meaning.proofs.LatticeLemmas.{source_first}
use Rattle.conversion_meaning.proofs.lattices.sources_come_first.Goals as goal

pub returns : goal.returns
returns _ = source_first

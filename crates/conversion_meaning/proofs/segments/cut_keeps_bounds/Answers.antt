use Rattle.conversion_meaning.proofs.CutLemmas.{cut-keeps_bounds}
use Rattle.conversion_meaning.proofs.segments.cut_keeps_bounds.Goals as goal

pub returns : goal.returns
returns c = cut-keeps_bounds

use Rattle.conversion_meaning.proofs.CutLemmas.{cut-touches}
use Rattle.conversion_meaning.proofs.segments.cut_touches.Goals as goal

pub returns : goal.returns
returns c = λ d l path well joined. cut-touches d l well path joined

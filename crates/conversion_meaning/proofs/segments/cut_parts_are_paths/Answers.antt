use Rattle.conversion_meaning.proofs.CutParts.{cut-parts_are_paths}
use Rattle.conversion_meaning.proofs.segments.cut_parts_are_paths.Goals as goal

pub returns : goal.returns
returns c = λ d l path well joined. cut-parts_are_paths d l well path joined

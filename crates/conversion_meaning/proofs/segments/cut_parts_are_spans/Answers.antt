use Rattle.conversion_meaning.proofs.CutParts.{cut-parts_are_spans}
use Rattle.conversion_meaning.proofs.segments.cut_parts_are_spans.Goals as goal

pub returns : goal.returns
returns c = λ d l path some well joined. cut-parts_are_spans d l well path joined some

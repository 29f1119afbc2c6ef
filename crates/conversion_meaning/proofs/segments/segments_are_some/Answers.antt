use Rattle.conversion_meaning.proofs.SegmentLemmas.{segments-some}
use Rattle.conversion_meaning.proofs.segments.segments_are_some.Goals as goal

pub returns : goal.returns
returns c = λ d rows history rules key bounds sound is are. segments-some d rows key bounds sound is are history rules

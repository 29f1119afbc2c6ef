use Rattle.conversion_meaning.proofs.SegmentLemmas.{segments-touch}
use Rattle.conversion_meaning.proofs.segments.segments_touch.Goals as goal

pub returns : goal.returns
returns c = λ d rows history rules key bounds sound is are. segments-touch d rows key bounds sound is are history rules

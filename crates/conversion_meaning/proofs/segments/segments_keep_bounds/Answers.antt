use Rattle.conversion_meaning.proofs.SegmentLemmas.{segments-keep_bounds}
use Rattle.conversion_meaning.proofs.segments.segments_keep_bounds.Goals as goal

pub returns : goal.returns
returns c = segments-keep_bounds

use Rattle.conversion_meaning.proofs.SegmentValues.{segment_values-once}
use Rattle.conversion_meaning.proofs.segments.segment_values_are_once.Goals as goal

pub returns : goal.returns
returns c = segment_values-once

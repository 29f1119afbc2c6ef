use Rattle.conversion_meaning.proofs.SegmentValues.{segments-have_values}
use Rattle.conversion_meaning.proofs.segments.segments_have_values.Goals as goal

pub returns : goal.returns
returns c = segments-have_values

use Rattle.conversion_meaning.proofs.BeginLemmas.{segments-begin}
use Rattle.conversion_meaning.proofs.segments.segments_begin_with_the_path.Goals as goal

pub returns : goal.returns
returns c = segments-begin

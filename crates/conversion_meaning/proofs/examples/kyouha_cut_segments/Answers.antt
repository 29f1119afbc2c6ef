use Rattle.std.proofs.Common.{refl}
use Rattle.mz_base.specs.Data.{joins}
use Rattle.conversion_meaning.specs.Segments.{cut}
use Rattle.conversion_meaning.proofs.examples.kyouha_cut_segments.Goals as goal

pub returns : goal.returns
unfolding joins cut
returns _ = refl

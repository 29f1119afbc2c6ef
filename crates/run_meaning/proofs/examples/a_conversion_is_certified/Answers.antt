use Rattle.std.proofs.Common.{refl}
use Rattle.run_meaning.proofs.Computing.{computing}
use Rattle.run_meaning.proofs.examples.a_conversion_is_certified.Goals as goal

pub returns : goal.returns
unfolding computing
returns _ = refl

use Rattle.std.proofs.Common.{refl}
use Rattle.run_meaning.proofs.Computing.{computing}
use Rattle.run_meaning.proofs.examples.a_late_job_is_skipped.Goals as goal

pub returns : goal.returns
unfolding computing
returns _ = refl

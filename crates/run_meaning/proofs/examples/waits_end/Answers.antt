use Rattle.std.proofs.Common.{refl}
use Rattle.run_meaning.proofs.Computing.{computing}
use Rattle.run_meaning.proofs.examples.waits_end.Goals as goal

pub returns-clause-run : goal.returns-clause-run
unfolding computing
returns-clause-run _ = record { order = refl; plays = refl; complete = refl }

pub returns-clause-lines : goal.returns-clause-lines
unfolding computing
returns-clause-lines _ = refl

pub returns-clause-jobs : goal.returns-clause-jobs
unfolding computing
returns-clause-jobs _ = refl

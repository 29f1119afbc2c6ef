use Rattle.std.proofs.Common.{refl}
use Rattle.run_meaning.proofs.Computing.{computing}
use Rattle.run_meaning.proofs.examples.reloads_come.Goals as goal

pub returns-clause-run : goal.returns-clause-run
unfolding computing
returns-clause-run _ = record { order = refl; plays = refl; complete = refl }

pub returns-clause-taken : goal.returns-clause-taken
unfolding computing
returns-clause-taken _ = refl

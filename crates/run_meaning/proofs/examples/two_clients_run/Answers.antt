use Rattle.std.proofs.Common.{refl}
use Rattle.run_meaning.proofs.Computing.{computing}
use Rattle.run_meaning.proofs.examples.two_clients_run.Goals as goal

pub returns-clause-run : goal.returns-clause-run
unfolding computing
returns-clause-run _ = record { order = refl; plays = refl; complete = refl }

pub returns-clause-journal : goal.returns-clause-journal
unfolding computing
returns-clause-journal _ = refl

use Rattle.std.proofs.Common.{refl}
use Rattle.run_meaning.proofs.Computing.{computing}
use Rattle.run_meaning.proofs.examples.the_second_is_served_alone.Goals as goal

pub returns-clause-log : goal.returns-clause-log
unfolding computing
returns-clause-log _ = refl

pub returns-clause-alone : goal.returns-clause-alone
unfolding computing
returns-clause-alone _ = refl

pub returns-clause-solo : goal.returns-clause-solo
unfolding computing
returns-clause-solo _ = refl

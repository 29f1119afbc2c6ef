use Rattle.std.proofs.Common.{refl}
use Rattle.run_meaning.proofs.Computing.{computing}
use Rattle.run_meaning.proofs.examples.the_highest_reload_is_in_force.Goals as goal

pub returns-clause-refused : goal.returns-clause-refused
unfolding computing
returns-clause-refused _ = refl

pub returns-clause-lower : goal.returns-clause-lower
unfolding computing
returns-clause-lower _ = refl

pub returns-clause-none : goal.returns-clause-none
unfolding computing
returns-clause-none _ = refl

use Rattle.std.proofs.Common.{refl}
use Rattle.run_meaning.proofs.Computing.{computing}
use Rattle.run_meaning.proofs.examples.a_take_has_the_learns_before_it.Goals as goal

pub returns-clause-after : goal.returns-clause-after
unfolding computing
returns-clause-after _ = refl

pub returns-clause-before : goal.returns-clause-before
unfolding computing
returns-clause-before _ = refl

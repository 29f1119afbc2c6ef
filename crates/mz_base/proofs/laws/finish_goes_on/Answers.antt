use Rattle.std.proofs.Common.{refl}
use Rattle.mz_base.specs.Kana.{finish}
use Rattle.mz_base.proofs.Turns.{finish-goes_on}
use Rattle.mz_base.proofs.laws.finish_goes_on.Goals as goal

pub returns-clause-ends : goal.returns-clause-ends
unfolding finish
returns-clause-ends c = λ rules. refl

pub returns-clause-goes_on : goal.returns-clause-goes_on
returns-clause-goes_on c = λ rules text are_rules some. finish-goes_on rules are_rules.each text some

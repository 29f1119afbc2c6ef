use Rattle.std.proofs.Common.{refl}
use Rattle.conversion_meaning.specs.Rules.{spelled}
use Rattle.conversion_meaning.proofs.examples.spelled_numbers.Goals as goal

pub returns : goal.returns
unfolding spelled
returns _ = record { units = refl; groups = refl }

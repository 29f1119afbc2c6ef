use Rattle.std.proofs.Common.{refl}
use Rattle.mz_base.specs.Data.{connection}
use Rattle.conversion_meaning.specs.AllPaths.{all_paths}
use Rattle.conversion_meaning.specs.InOrder.{paths_in_order}
use Rattle.conversion_meaning.proofs.examples.mo_in_order.Goals as goal

pub returns : goal.returns
unfolding connection all_paths paths_in_order
returns _ = refl

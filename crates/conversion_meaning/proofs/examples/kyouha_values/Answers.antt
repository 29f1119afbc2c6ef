use Rattle.std.proofs.Common.{refl}
use Rattle.mz_base.specs.Data.{connection, word_at}
use Rattle.conversion_meaning.specs.AllPaths.{all_paths}
use Rattle.conversion_meaning.specs.Candidates.{first_values}
use Rattle.conversion_meaning.specs.Firsts.{firsts}
use Rattle.conversion_meaning.specs.InOrder.{paths_in_order}
use Rattle.conversion_meaning.proofs.examples.kyouha_values.Goals as goal

pub returns : goal.returns
unfolding connection word_at all_paths paths_in_order firsts first_values
returns _ = refl

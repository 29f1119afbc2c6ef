use Rattle.conversion_meaning.proofs.AllPathsLemmas.{All-all_paths}
use Rattle.conversion_meaning.proofs.all_paths.listed_are_all_paths.Goals as goal

pub returns : goal.returns
returns _ = All-all_paths

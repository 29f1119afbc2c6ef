use Rattle.conversion_meaning.proofs.AllPathsLemmas.{AllPairs-all_paths}
use Rattle.conversion_meaning.proofs.all_paths.all_paths_are_once.Goals as goal

pub returns : goal.returns
returns _ = AllPairs-all_paths

use Rattle.conversion_meaning.proofs.AllPathsLemmas.{Contains-all_paths}
use Rattle.conversion_meaning.proofs.all_paths.all_paths_are_listed.Goals as goal

pub returns : goal.returns
returns _ = Contains-all_paths

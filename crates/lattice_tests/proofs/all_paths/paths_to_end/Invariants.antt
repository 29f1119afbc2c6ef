use Rattle.conversion_meaning.specs.Examples.{set}
use Rattle.nbest.specs.Searches.{IsSearch}
use Rattle.lattice_tests.proofs.all_paths.paths_to_end.Given as goal

abbrev pub invariant-loop-place : goal.invariant-loop-place
invariant-loop-place l = IsSearch set l.lattice l.search

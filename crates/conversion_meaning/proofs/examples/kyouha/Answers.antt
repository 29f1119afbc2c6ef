use Rattle.std.proofs.Common.{refl}
use Rattle.mz_base.specs.Classes.{class_of}
use Rattle.mz_base.specs.Data.{connection, places, pos_of, unknown_of, word_at}
use Rattle.conversion_meaning.specs.AllPaths.{all_paths}
use Rattle.conversion_meaning.specs.Entries.{entries, entries_from, entries_in, user_entries, word_entries, char_entries, run_entries, is_run}
use Rattle.conversion_meaning.specs.Potentials.{ordinals_in}
use Rattle.conversion_meaning.proofs.Tests.{Worked-by_tests}
use Rattle.conversion_meaning.proofs.examples.kyouha.Goals as goal

pub returns : goal.returns
unfolding entries entries_from entries_in user_entries word_entries char_entries run_entries is_run places word_at unknown_of pos_of class_of connection all_paths ordinals_in
returns _ = Worked-by_tests _ _ _ _ _ _ _ refl refl

-- All words that compute a run.
use Rattle.mz_base.specs.Classes.{class_of}
use Rattle.mz_base.specs.Data.{connection, joins, kanji_rows, places, pos_of, unknown_of, values_of, word_at}
use Rattle.mz_base.specs.Folds.{row_of}
use Rattle.mz_base.specs.Kana.{finish, kana}
use Rattle.mz_base.specs.Ordered.{in_order}
use Rattle.conversion_meaning.specs.AllPaths.{all_paths}
use Rattle.conversion_meaning.specs.Answers.{answer, first_answer, least_costs}
use Rattle.conversion_meaning.specs.Candidates.{first_values}
use Rattle.conversion_meaning.specs.Entries.{entries, entries_from, entries_in, user_entries, word_entries, char_entries, run_entries, is_run}
use Rattle.conversion_meaning.specs.Firsts.{firsts}
use Rattle.conversion_meaning.specs.InOrder.{best_path, paths_in_order}
use Rattle.conversion_meaning.specs.Potentials.{ordinals_in}
use Rattle.conversion_meaning.specs.Rules.{rewritten}
use Rattle.conversion_meaning.specs.Segments.{cut, resized}
use Rattle.conversion_meaning.specs.Suggestions.{suggestions}
use Rattle.session_meaning.specs.Steps.{learned, needs, step}
use Rattle.run_meaning.specs.Deeds.{done, may}
use Rattle.run_meaning.specs.Orders.{made, run}
use Rattle.run_meaning.specs.Plays.{apply, by_client, did, provided}
use Rattle.run_meaning.specs.Solos.{alone_after, deed_of, solo_command}
use Rattle.run_meaning.specs.States.{client_at, journal_of}

unfoldable pub computing : Unit {0}
unfolding row_of entries entries_from entries_in user_entries word_entries char_entries run_entries is_run places word_at unknown_of pos_of class_of connection joins kanji_rows values_of all_paths ordinals_in paths_in_order best_path least_costs first_answer answer cut resized first_values firsts rewritten suggestions kana finish in_order step learned needs done may made run apply by_client did provided alone_after deed_of solo_command client_at journal_of
computing = tt

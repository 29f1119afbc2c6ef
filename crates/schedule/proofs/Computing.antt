-- All words that compute a reading.
use Rattle.std.specs.Str.{chars, is_utf8}
use Rattle.mz_base.specs.Lines.{lines_in, lines_of}
use Rattle.mz_base.specs.Numbers.{unsigned_of}
use Rattle.schedule.specs.Events.{of_client, of_two, outcome_in}

unfoldable pub computing : Unit {0}
unfolding lib.Utf8.encode chars is_utf8 lines_in lines_of unsigned_of of_client of_two outcome_in
computing = tt

-- The rows that entries stand for: docs/CONVERSION.md, "Entries".
use Rattle.std.specs.Prelude.{◌<◌, List, length}
use Rattle.mz_base.specs.Data.{DataLists}
use Rattle.mz_base.specs.declared.lattice.Source.{Source}
use Rattle.mz_base.specs.declared.lattice.Source.TheVariants.{User, Word, Char, Run}
use Rattle.mz_base.specs.declared.user.UserRow.{UserRow}

-- the row that an entry stands for is there
abbrev pub IsThere : DataLists → List UserRow → Source → Type 0
IsThere d rows (User place) = place < length rows
IsThere d rows (Word row) = row < length d.words
IsThere d rows Char = Unit {0}
IsThere d rows Run = Unit {0}

-- The value of an entry: docs/CONVERSION.md, "Entries".
use Rattle.std.specs.Prelude.{ℕ, List, slice_range}
use Rattle.mz_base.specs.Data.{DataLists, word_at}
use Rattle.mz_base.specs.Users.{user_row_at}
use Rattle.mz_base.specs.declared.lattice.Entry.{Entry}
use Rattle.mz_base.specs.declared.lattice.Source.{Source}
use Rattle.mz_base.specs.declared.lattice.Source.TheVariants.{User, Word, Char, Run}
use Rattle.mz_base.specs.declared.user.UserRow.{UserRow}

-- the word or the value of a row, or else the text itself
abbrev pub value_from : DataLists → List UserRow → List ℕ → Source → List ℕ
value_from d rows text (User place) = (user_row_at rows place).word
value_from d rows text (Word row) = (word_at d row).value
value_from d rows text Char = text
value_from d rows text Run = text

-- an entry's value
abbrev pub value_of : DataLists → List UserRow → List ℕ → Entry → List ℕ
value_of d rows key e = value_from d rows (slice_range key e.begin e.end) e.source

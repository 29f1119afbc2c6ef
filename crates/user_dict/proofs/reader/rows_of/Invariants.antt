use Rattle.std.proofs.Common.{◌≡◌, ◌++◌, map}
use Rattle.user_dict.specs.Kept.{row_of_entry}
use Rattle.user_dict.proofs.reader.rows_of.Given as goal

-- the rows so far, and then those of the entries that are left
abbrev pub invariant-loop-words : goal.invariant-loop-words
invariant-loop-words l =
    l.rows.items ++ map row_of_entry l.words-iterator ≡ map row_of_entry l.fn.entries.entries

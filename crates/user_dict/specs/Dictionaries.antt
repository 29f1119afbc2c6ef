-- What a dictionary was made of.
use Rattle.user_dict.specs.Rows.{Taken}
use Rattle.user_dict.specs.declared.dictionary.UserDict.{UserDict}

abbrev pub taken_in : UserDict → Taken
taken_in dict = record { rows = dict.kept; skipped = dict.skipped.items }

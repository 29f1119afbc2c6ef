-- What files give is fields of a report: docs/FORMATS.md, "Report".
use Rattle.std.specs.Prelude.{◌≡◌, ℕ, List, Ok}
use Rattle.std.specs.List.{All}
use Rattle.mz_base.specs.Data.{DataLists}
use Rattle.mz_base.specs.Lines.{lines_of}
use Rattle.mz_base.specs.declared.user.UserRow.{UserRow}
use Rattle.engine.specs.Sets.{data_of}
use Rattle.engine.specs.declared.files.SetFile.{SetFile}
use Rattle.keys.specs.declared.command.Command.{Command}
use Rattle.scenario.specs.Scripts.{script_of}
use Rattle.session_meaning.specs.Fields.{AreListsFields, IsCommandField, IsField}
use Rattle.user_dict.specs.Rows.{Taken, taken_of}

-- no text of a data set that can be shown has a tab or a line feed
abbrev pub SetsAreFields : Type 0
SetsAreFields = (files : List SetFile) (d : DataLists) → data_of files ≡ Ok d → AreListsFields d

-- no word of a user's dictionary has one
abbrev pub DictionariesAreFields : Type 0
DictionariesAreFields =
    (bytes : List ℕ) (taken : Taken) → taken_of bytes ≡ Ok taken → All (λ (row : UserRow). IsField row.word) taken.rows

-- and no key of a script types one
abbrev pub ScriptsAreFields : Type 0
ScriptsAreFields =
    (bytes : List ℕ) (commands : List Command) → script_of (lines_of bytes) ≡ Ok commands → All IsCommandField commands

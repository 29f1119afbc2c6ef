-- The data that the files of a set give, or their first fault: docs/FORMATS.md, "Data files".
use Rattle.std.specs.Prelude.{ℕ, ◌+◌, pos, Bool, List, [], ◌∷◌, Option, Some, None, Result, Ok, Err, filter, find}
use Rattle.std.specs.Option.{option_map}
use Rattle.mz_base.specs.Answers.{◌>>=◌}
use Rattle.mz_base.specs.Data.{DataLists}
use Rattle.mz_base.specs.Faults.{same_role}
use Rattle.mz_base.specs.Lines.{lines_of}
use Rattle.mz_base.specs.declared.data.IdRow.{IdRow}
use Rattle.mz_base.specs.declared.data.JoinRow.{JoinRow}
use Rattle.mz_base.specs.declared.data.PosRow.{PosRow}
use Rattle.mz_base.specs.declared.data.UnknownRow.{UnknownRow}
use Rattle.mz_base.specs.declared.data.ValueRow.{ValueRow}
use Rattle.mz_base.specs.declared.data.WordRow.{WordRow}
use Rattle.mz_base.specs.declared.fault.Fault.{Fault}
use Rattle.mz_base.specs.declared.fault.FaultKind.{FaultKind}
use Rattle.mz_base.specs.declared.fault.Role.{Role}
use Rattle.mz_base.specs.declared.fault.Role.TheVariants.{Connection, Id, Unk, Segment, UserPos, Romaji, Dictionary, Symbol, Kanji}
use Rattle.mz_base.specs.declared.romaji.Rule.{Rule}
use Rattle.conn_matrix.specs.Costs.{CostTable, table_in}
use Rattle.dict_rows.specs.Rows.{word_rows}
use Rattle.pos_table.specs.Classes.{nodes_of, unknown_rows}
use Rattle.pos_table.specs.Ids.{id_rows}
use Rattle.pos_table.specs.Joins.{join_rows}
use Rattle.pos_table.specs.UserPos.{pos_rows}
use Rattle.pos_table.specs.Values.{value_rows}
use Rattle.romaji_table.specs.Rows.{romaji_rows}
use Rattle.engine.specs.declared.files.SetFile.{SetFile}

abbrev pub has_role : Role → SetFile → Bool
has_role role file = same_role file.role role

-- the files of a role, in the order of the manifest
abbrev pub files_of : Role → List SetFile → List SetFile
files_of role files = filter (has_role role) files

-- the bytes of the first file of a role
abbrev pub bytes_of : Role → List SetFile → Option (List ℕ)
bytes_of role files = option_map (λ (file : SetFile). file.bytes) (find (has_role role) files)

-- what the nth file of a role gives; what is wrong with it is a fault of the set
abbrev pub in_file : {A : Type 0} → Role → ℕ → Result A FaultKind → Result A Fault
in_file role nth (Ok value) = Ok value
in_file role nth (Err kind) = Err (record { role = role; nth = nth; kind = kind })

abbrev pub from_bytes : {A : Type 0} → Role → A → (List ℕ → Result A FaultKind) → Option (List ℕ) → Result A Fault
from_bytes role missing read None = Ok missing
from_bytes role missing read (Some bytes) = in_file role 1 (read bytes)

-- what the file of a role gives, or what stands in for a missing file
abbrev pub from_file : {A : Type 0} → Role → A → (List ℕ → Result A FaultKind) → List SetFile → Result A Fault
from_file role missing read files = from_bytes role missing read (bytes_of role files)

-- one id, which follows itself without a cost
abbrev pub one_id : CostTable
one_id = record { size = 1; costs = pos 0 ∷ [] }

-- what each role's files give a set of so many ids, or of ids with these features
abbrev pub costs_given : List SetFile → Result CostTable Fault
costs_given files = from_file Connection one_id (λ bytes. table_in (lines_of bytes)) files

abbrev pub features_given : ℕ → List SetFile → Result (List IdRow) Fault
features_given ids files = from_file Id [] (id_rows ids) files

abbrev pub unknown_given : ℕ → List SetFile → Result (List UnknownRow) Fault
unknown_given ids files = from_file Unk (nodes_of []) (unknown_rows ids) files

abbrev pub joins_given : ℕ → List SetFile → Result (List JoinRow) Fault
joins_given ids files = from_file Segment [] (join_rows ids) files

abbrev pub names_given : List IdRow → List SetFile → Result (List PosRow) Fault
names_given features files = from_file UserPos [] (pos_rows features) files

abbrev pub rules_given : List SetFile → Result (List Rule) Fault
rules_given files = from_file Romaji [] romaji_rows files

-- the rows before, and then those of dictionary files, of which the first is the nth
abbrev pub words_after : ℕ → List WordRow → ℕ → List SetFile → Result (List WordRow) Fault
words_after ids rows nth [] = Ok rows
words_after ids rows nth (file ∷ files) =
    in_file Dictionary nth (word_rows ids rows file.bytes) >>= (λ rows. words_after ids rows (nth + 1) files)

abbrev pub words_given : ℕ → List SetFile → Result (List WordRow) Fault
words_given ids files = words_after ids [] 1 (files_of Dictionary files)

abbrev pub symbols_given : List SetFile → Result (List ValueRow) Fault
symbols_given files = from_file Symbol [] value_rows files

abbrev pub kanji_given : List SetFile → Result (List ValueRow) Fault
kanji_given files = from_file Kanji [] value_rows files

-- What the files give. Of a role other than dictionary the first file counts.
unfoldable pub data_of : List SetFile → Result DataLists Fault
data_of files = do
  table ← costs_given files
  features ← features_given table.size files
  unknown ← unknown_given table.size files
  joins ← joins_given table.size files
  names ← names_given features files
  rules ← rules_given files
  words ← words_given table.size files
  symbols ← symbols_given files
  kanji ← kanji_given files
  Ok (record { ids = table.size; costs = table.costs; features = features; unknown = unknown; joins = joins; pos = names; rules = rules; words = words; symbols = symbols; kanji = kanji })

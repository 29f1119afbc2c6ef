-- The rows of a file of a user's parts of speech: docs/FORMATS.md, "Parts of speech".
use Rattle.std.specs.Prelude.{ℕ, ℤ, ◌==◌, Bool, not, List, ◌∷◌, Option, Some, None, Result, Ok, Err, if◌then◌else◌, length, find}
use Rattle.std.specs.Option.{option_map}
use Rattle.std.specs.Str.{chars}
use Rattle.mz_base.specs.Answers.{◌>>=◌}
use Rattle.mz_base.specs.ByName.{latest_by_name, same_name}
use Rattle.mz_base.specs.Data.{is_text}
use Rattle.mz_base.specs.Limits.{is_cost, is_long}
use Rattle.mz_base.specs.Lines.{fields_of}
use Rattle.mz_base.specs.Numbers.{signed_of}
use Rattle.mz_base.specs.Rows.{table_rows}
use Rattle.mz_base.specs.declared.data.IdRow.{IdRow}
use Rattle.mz_base.specs.declared.data.PosRow.{PosRow}
use Rattle.mz_base.specs.declared.fault.FaultKind.{FaultKind}
use Rattle.mz_base.specs.declared.fault.FaultKind.TheVariants.{Fields, Empty, Number, Range, NoFeature, Limit}

-- the fields of a row, before they are read
pub record PosFields : Type 0 where
  pub name : List ℕ
  pub feature : List ℕ
  pub cost : List ℕ

-- name, feature and cost; further fields do not count
abbrev pub pos_fields : List (List ℕ) → Option PosFields
pos_fields (name ∷ feature ∷ cost ∷ more) = Some (record { name = name; feature = feature; cost = cost })
pos_fields _ = None

-- the first id with this feature, which is the least, since ids rise
abbrev pub id_of : List IdRow → List ℕ → Option ℕ
id_of ids feature = option_map (λ (row : IdRow). row.id) (find (λ row. is_text feature row.feature) ids)

abbrev pub featured : ℕ → PosFields → ℤ → Option ℕ → Result PosRow FaultKind
featured number row cost None = Err (NoFeature number)
featured number row cost (Some id) =
    if is_long row.name then Err (Limit number) else Ok (record { name = chars row.name; id = id; cost = cost })

abbrev pub priced : List IdRow → ℕ → PosFields → Option ℤ → Result PosRow FaultKind
priced ids number row None = Err (Number number)
priced ids number row (Some cost) =
    if not (is_cost cost) then Err (Range number) else featured number row cost (id_of ids (chars row.feature))

abbrev pub fields_pos : List IdRow → ℕ → Option PosFields → Result PosRow FaultKind
fields_pos ids number None = Err (Fields number)
fields_pos ids number (Some row) =
    if length row.name == 0 then Err (Empty number) else priced ids number row (signed_of 10 row.cost)

-- the row that a line has
abbrev pub pos_in : List IdRow → ℕ → List ℕ → Result PosRow FaultKind
pos_in ids number line = fields_pos ids number (pos_fields (fields_of line))

abbrev pub name_of : PosRow → List ℕ
name_of row = row.name

-- the rows have one name
abbrev pub same_pos : PosRow → PosRow → Bool
same_pos = same_name name_of

-- the rows of a file, of one name the last, in the order of the names; or its first fault
abbrev pub pos_rows : List IdRow → List ℕ → Result (List PosRow) FaultKind
pos_rows ids bytes = table_rows (pos_in ids) bytes >>= (λ rows. Ok (latest_by_name name_of rows))

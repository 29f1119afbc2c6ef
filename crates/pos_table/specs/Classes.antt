-- The rows of a file of unknown words: docs/FORMATS.md, "Unknown words".
use Rattle.std.specs.Prelude.{ℕ, ℤ, ◌==◌, ◌&&◌, Bool, List, [], ◌∷◌, map, Option, Some, None, Result, Ok, Err, if◌then◌else◌, codes, nat_lt, find, unwrap_or}
use Rattle.std.specs.Option.{option_map}
use Rattle.std.specs.Str.{bytes_eq}
use Rattle.mz_base.specs.Answers.{◌>>=◌}
use Rattle.mz_base.specs.Data.{class_place}
use Rattle.mz_base.specs.Latest.{latest}
use Rattle.mz_base.specs.Limits.{is_cost}
use Rattle.mz_base.specs.Lines.{fields_of}
use Rattle.mz_base.specs.Numbers.{number_of, signed_of}
use Rattle.mz_base.specs.Rows.{table_rows}
use Rattle.mz_base.specs.declared.data.Class.{Class}
use Rattle.mz_base.specs.declared.data.Class.TheVariants.{Hiragana, Katakana, Digit, Letter, Other}
use Rattle.mz_base.specs.declared.data.UnknownRow.{UnknownRow}
use Rattle.mz_base.specs.declared.fault.FaultKind.{FaultKind}
use Rattle.mz_base.specs.declared.fault.FaultKind.TheVariants.{NotUtf8, Fields, Number, Range, Limit}
use Rattle.mz_base.specs.declared.fault.FaultKind.TheVariants as fault
use Rattle.pos_table.specs.declared.unknown.ClassRow.{ClassRow}
use Rattle.pos_table.specs.declared.unknown.TheConstants.{UNKNOWN_ID, UNKNOWN_COST}

-- the fields of a row, before they are read
pub record ClassFields : Type 0 where
  pub class : List ℕ
  pub id : List ℕ
  pub cost : List ℕ

-- class, id and cost; further fields do not count
abbrev pub class_fields : List (List ℕ) → Option ClassFields
class_fields (class ∷ id ∷ cost ∷ more) = Some (record { class = class; id = id; cost = cost })
class_fields _ = None

-- the class of a name
abbrev pub class_named : List ℕ → Option Class
class_named name =
    if bytes_eq name (codes "HIRAGANA") then Some Hiragana else
    if bytes_eq name (codes "KATAKANA") then Some Katakana else
    if bytes_eq name (codes "DIGIT") then Some Digit else
    if bytes_eq name (codes "LETTER") then Some Letter else
    if bytes_eq name (codes "OTHER") then Some Other else None

abbrev pub numbers_from : Option ℕ → Option ℤ → Option UnknownRow
numbers_from (Some id) (Some cost) = Some (record { id = id; cost = cost })
numbers_from _ _ = None

abbrev pub class_numbers : ClassFields → Option UnknownRow
class_numbers row = numbers_from (number_of row.id) (signed_of 10 row.cost)

-- an id that there is, and a cost within its limits
abbrev pub is_node : ℕ → UnknownRow → Bool
is_node ids node = nat_lt node.id ids && is_cost node.cost

abbrev pub ranged : ℕ → ℕ → Class → Option UnknownRow → Result ClassRow FaultKind
ranged ids number class None = Err (Number number)
ranged ids number class (Some node) =
    if is_node ids node then Ok (record { class = class; node = node }) else Err (Range number)

abbrev pub classed : ℕ → ℕ → ClassFields → Option Class → Result ClassRow FaultKind
classed ids number row None = Err (fault.Class number)
classed ids number row (Some class) = ranged ids number class (class_numbers row)

abbrev pub fields_class : ℕ → ℕ → Option ClassFields → Result ClassRow FaultKind
fields_class ids number None = Err (Fields number)
fields_class ids number (Some row) = classed ids number row (class_named row.class)

-- the row that a line has
abbrev pub class_in : ℕ → ℕ → List ℕ → Result ClassRow FaultKind
class_in ids number line = fields_class ids number (class_fields (fields_of line))

-- the row is of this class
abbrev pub has_class : Class → ClassRow → Bool
has_class class row = class_place row.class == class_place class

abbrev pub same_class : ClassRow → ClassRow → Bool
same_class row other = has_class row.class other

-- the node of the last row of a class
abbrev pub last_node : List ClassRow → Class → Option UnknownRow
last_node rows class =
    option_map (λ (row : ClassRow). row.node) (find (has_class class) (latest same_class rows))

-- where no row gives a node
abbrev pub no_node : UnknownRow
no_node = record { id = UNKNOWN_ID; cost = UNKNOWN_COST }

-- the node of a class: that of its last row, or else that of the other characters
abbrev pub node_of : List ClassRow → Class → UnknownRow
node_of rows class = unwrap_or (last_node rows class) (unwrap_or (last_node rows Other) no_node)

-- the nodes of all classes
abbrev pub nodes_of : List ClassRow → List UnknownRow
nodes_of rows = map (node_of rows) (Hiragana ∷ Katakana ∷ Digit ∷ Letter ∷ Other ∷ [])

-- the five rows of a file, or its first fault
abbrev pub unknown_rows : ℕ → List ℕ → Result (List UnknownRow) FaultKind
unknown_rows ids bytes = table_rows (class_in ids) bytes >>= (λ rows. Ok (nodes_of rows))

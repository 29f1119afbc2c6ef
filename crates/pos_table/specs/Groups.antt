-- The values of each reading.
use Rattle.std.specs.Prelude.{◌≡◌, ℕ, List, []}
use Rattle.std.specs.HashMap.{get_by}
use Rattle.std.specs.Option.{option_map_or}
use Rattle.std.specs.Str.{bytes_eq}
use Rattle.mz_base.specs.Data.{values_of}
use Rattle.mz_base.specs.declared.data.ValueRow.{ValueRow}
use Rattle.pos_table.specs.declared.groups.Groups.{Groups}

-- the values that stand under a reading
abbrev pub grouped : Groups → List ℕ → List (List ℕ)
grouped groups reading =
    option_map_or (λ values. values.items) (get_by (λ key. bytes_eq reading key.items) groups.by_reading) []

-- they are those of these rows
abbrev pub AreGroups : Groups → List ValueRow → Type 0
AreGroups groups rows = (reading : List ℕ) → grouped groups reading ≡ values_of rows reading

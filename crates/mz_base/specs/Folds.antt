-- Folds of characters: docs/FORMATS.md, "Folds".
use Rattle.std.specs.Prelude.{ℕ, ◌+◌, ◌-◌, ◌==◌, Bool, List, [], ◌∷◌, map, find, option_to_list, Option, Some, None, if◌then◌else◌}
use Rattle.std.specs.List.{flat_map}
use Rattle.mz_base.specs.Classes.{is_from}
use Rattle.mz_base.specs.declared.folds.HalfRow.{HalfRow}
use Rattle.mz_base.specs.declared.half_rows.TheConstants.{HALF_ROWS}

-- U+3041 to U+3096 become the katakana 0x60 above
abbrev pub katakana_of : ℕ → ℕ
katakana_of c = if is_from 0x3041 0x3096 c then c + 0x60 else c

-- U+30A1 to U+30F6 become the hiragana 0x60 below
abbrev pub hiragana_of : ℕ → ℕ
hiragana_of c = if is_from 0x30A1 0x30F6 c then c - 0x60 else c

-- U+0021 to U+007E become the forms 0xFEE0 above, and a space the ideographic one
abbrev pub full_width_of : ℕ → ℕ
full_width_of c = if is_from 0x21 0x7E c then c + 0xFEE0 else (if c == 0x20 then 0x3000 else c)

abbrev pub is_full : ℕ → HalfRow → Bool
is_full c row = row.full == c

-- the row of a character
unfoldable pub row_of : ℕ → Option HalfRow
row_of c = find (is_full c) HALF_ROWS

-- the half width form, and its sound mark
abbrev pub row_text : HalfRow → List ℕ
row_text row = row.half ∷ option_to_list row.mark

abbrev pub found_text : ℕ → Option HalfRow → List ℕ
found_text c None = c ∷ []
found_text c (Some row) = row_text row

-- what a character becomes
abbrev pub half_of : ℕ → List ℕ
half_of c = found_text c (row_of c)

-- the four folds, character by character
abbrev pub katakana : List ℕ → List ℕ
katakana text = map katakana_of text

abbrev pub hiragana : List ℕ → List ℕ
hiragana text = map hiragana_of text

abbrev pub full_width : List ℕ → List ℕ
full_width text = map full_width_of text

abbrev pub half_width : List ℕ → List ℕ
half_width text = flat_map half_of text

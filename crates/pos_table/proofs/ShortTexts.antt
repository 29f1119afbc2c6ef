-- The texts of the smaller files are within the bytes of a field.
use Rattle.std.proofs.Common.{◌≡◌, ℕ, zero, suc, ◌+◌, ◌<◌, ℤ, Bool, true, false, not, ◌||◌, eqb, nat_lt, nat_le, List, [], ◌∷◌, Option, Some, None, Ok, Err, length, drop, get_or, option_to_list, refl, arith, inl, inr, subst}
use Rattle.std.specs.List.{All, AllByRecursion, filter_map, find, position_or_len, range_with_len}
use Rattle.std.specs.Str.{chars, is_utf8, IsUtf8}
use Rattle.std.proofs.lemmas.Bool.{cases_Bool, ltb-true}
use Rattle.std.proofs.lemmas.Bool.Decides.{nat_tests}
use Rattle.std.proofs.lemmas.List.Elements.{All-cons, All-nil, All-from_recursion, recursion_from_All}
use Rattle.std.proofs.lemmas.List.Sorted.{All-permutation}
use Rattle.std.proofs.lemmas.List.Sums.{prefix_len_stops}
use Rattle.std.proofs.lemmas.Str.{IsUtf8-from_is_utf8, IsUtf8-drop, IsCharBoundary-after_ascii}
use Rattle.mz_base.specs.Answers.{◌>>=◌}
use Rattle.mz_base.specs.ByName.{latest_by_name, same_name}
use Rattle.mz_base.specs.Data.{IsShort, IsValueShort}
use Rattle.mz_base.specs.Latest.{latest}
use Rattle.mz_base.specs.Limits.{is_cost, is_long}
use Rattle.mz_base.specs.Lines.{fields_of, lines_of}
use Rattle.mz_base.specs.Numbers.{number_of, signed_of}
use Rattle.mz_base.specs.Rows.{rows_after, table_rows}
use Rattle.mz_base.specs.declared.data.IdRow.{IdRow}
use Rattle.mz_base.specs.declared.data.PosRow.{PosRow}
use Rattle.mz_base.specs.declared.data.ValueRow.{ValueRow}
use Rattle.mz_base.specs.declared.fault.FaultKind.TheVariants.{NotUtf8, Empty, Range, Limit}
use Rattle.mz_base.proofs.AnswerLemmas.{part_gave}
use Rattle.mz_base.proofs.ByNameLemmas.{latest-All, latest_by_name-same}
use Rattle.mz_base.proofs.RowFacts.{rows_after-All, table_rows-All}
use Rattle.mz_base.proofs.TextFields.{IsShort-field, fields-utf8}
use Rattle.pos_table.specs.Ids.{IdFields, by_id, fields_id, has_id, id_fields, id_in, id_row, id_rows, is_space, numbered, same_id}
use Rattle.pos_table.specs.UserPos.{PosFields, featured, fields_pos, id_of, name_of, pos_fields, pos_in, pos_rows, priced}
use Rattle.pos_table.proofs.PosLemmas.{found-has}
use Rattle.pos_table.specs.Values.{ValueFields, fields_value, value_fields, value_in, value_rows}

first-false : (a b : Bool) → (a || b) ≡ false → a ≡ false
first-false true b told = told
first-false false b told = refl

second-false : (a b : Bool) → (a || b) ≡ false → b ≡ false
second-false true b told = absurd (let never : true ≡ false = told in cc)
second-false false b told = told

-- the rows of symbols and of kanji
abbrev ValueTexts : Option ValueFields → Type 0
ValueTexts None = Unit {0}
ValueTexts (Some row) = IsUtf8 row.reading × IsUtf8 row.value

value_fields-texts : (fields : List (List ℕ)) → AllByRecursion IsUtf8 fields → ValueTexts (value_fields fields)
value_fields-texts [] all = tt
value_fields-texts (reading ∷ []) all = tt
value_fields-texts (reading ∷ value ∷ more) all = (all.0, all.1.0)

value-short : (number : ℕ) (fields : Option ValueFields) (row : ValueRow) → ValueTexts fields → fields_value number fields ≡ Ok row → IsValueShort row
value-short number None row texts given = absurd cc
value-short number (Some fields) row texts given =
    elim (cases_Bool (eqb (length fields.reading) 0 || eqb (length fields.value) 0)) [
      | inl empty ↦ let never : Err (Empty number) ≡ Ok row = rw empty at given in absurd cc
      | inr filled ↦ elim (cases_Bool (is_long fields.reading || is_long fields.value)) [
        | inl long ↦ let never : Err (Limit number) ≡ Ok row = rw (filled, long) at given in absurd cc
        | inr short ↦
            let made : ValueRow = record { reading = chars fields.reading; value = chars fields.value } in
            let here : Ok made ≡ Ok row = rw (filled, short) at given in
            let same : made ≡ row = cc in
            subst IsValueShort same (record {
              reading = IsShort-field fields.reading texts.0 (first-false _ _ short);
              value = IsShort-field fields.value texts.1 (second-false _ _ short);
            })
      ]
    ]

pub values-short : (bytes : List ℕ) (rows : List ValueRow) → value_rows bytes ≡ Ok rows → All IsValueShort rows
values-short bytes rows given =
    table_rows-All IsValueShort value_in (λ number line row text given. value-short number (value_fields (fields_of line)) row (value_fields-texts (fields_of line) (fields-utf8 line text)) given) bytes rows given

-- the names of parts of speech
abbrev IsNameShort : PosRow → Type 0
IsNameShort row = IsShort row.name

abbrev PosTexts : Option PosFields → Type 0
PosTexts None = Unit {0}
PosTexts (Some row) = IsUtf8 row.name

pos_fields-texts : (fields : List (List ℕ)) → AllByRecursion IsUtf8 fields → PosTexts (pos_fields fields)
pos_fields-texts [] all = tt
pos_fields-texts (name ∷ []) all = tt
pos_fields-texts (name ∷ feature ∷ []) all = tt
pos_fields-texts (name ∷ feature ∷ cost ∷ more) all = all.0

featured-short : (number : ℕ) (fields : PosFields) (cost : ℤ) (id : Option ℕ) (row : PosRow) → IsUtf8 fields.name → featured number fields cost id ≡ Ok row → IsNameShort row
featured-short number fields cost None row text given = absurd cc
featured-short number fields cost (Some id) row text given =
    elim (cases_Bool (is_long fields.name)) [
      | inl long ↦ let never : Err (Limit number) ≡ Ok row = rw long at given in absurd cc
      | inr short ↦
          let made : PosRow = record { name = chars fields.name; id = id; cost = cost } in
          let here : Ok made ≡ Ok row = rw short at given in
          let same : made ≡ row = cc in
          subst IsNameShort same (IsShort-field fields.name text short)
    ]

priced-short : (ids : List IdRow) (number : ℕ) (fields : PosFields) (cost : Option ℤ) (row : PosRow) → IsUtf8 fields.name → priced ids number fields cost ≡ Ok row → IsNameShort row
priced-short ids number fields None row text given = absurd cc
priced-short ids number fields (Some cost) row text given =
    elim (cases_Bool (is_cost cost)) [
      | inl within ↦ featured-short number fields cost (id_of ids (chars fields.feature)) row text (rw within at given)
      | inr outside ↦ let never : Err (Range number) ≡ Ok row = rw outside at given in absurd cc
    ]

pos-short : (ids : List IdRow) (number : ℕ) (fields : Option PosFields) (row : PosRow) → PosTexts fields → fields_pos ids number fields ≡ Ok row → IsNameShort row
pos-short ids number None row text given = absurd cc
pos-short ids number (Some fields) row text given =
    elim (cases_Bool (eqb (length fields.name) 0)) [
      | inl empty ↦ let never : Err (Empty number) ≡ Ok row = rw empty at given in absurd cc
      | inr filled ↦ priced-short ids number fields (signed_of 10 fields.cost) row text (rw filled at given)
    ]

pub names-short : (ids : List IdRow) (bytes : List ℕ) (rows : List PosRow) → pos_rows ids bytes ≡ Ok rows → All IsNameShort rows
names-short ids bytes rows given =
    let (all, read, kept) = part_gave (table_rows (pos_in ids) bytes) _ rows given in
    let same : latest_by_name name_of all ≡ rows = cc in
    let short : All IsNameShort all = table_rows-All IsNameShort (pos_in ids) (λ number line row text given. pos-short ids number (pos_fields (fields_of line)) row (pos_fields-texts (fields_of line) (fields-utf8 line text)) given) bytes all read in
    let last = latest-All IsNameShort (same_name name_of) all (recursion_from_All IsNameShort all short) in
    subst (All IsNameShort) same (All-permutation IsNameShort _ _ (latest_by_name-same name_of all) (All-from_recursion IsNameShort _ last))

-- the features of ids
abbrev IsFeatureShort : IdRow → Type 0
IsFeatureShort row = IsShort row.feature

abbrev IdTexts : Option IdFields → Type 0
IdTexts None = Unit {0}
IdTexts (Some row) = IsUtf8 row.feature

id_fields-texts : (line : List ℕ) → is_utf8 line ≡ true → IdTexts (id_fields line)
id_fields-texts line text =
    elim (cases_Bool (nat_lt (position_or_len is_space line) (length line))) [
      | inl found ↦
          let inside : position_or_len is_space line < length line = ltb-true _ _ found in
          rw found (after-space line (position_or_len is_space line) (IsUtf8-from_is_utf8 line text) inside (space-at line inside))
      | inr none ↦ rw none tt
    ]
  where
    space-at : (line : List ℕ) → position_or_len is_space line < length line → get_or line (position_or_len is_space line) 0 ≡ 32
    space-at line inside =
        let stops = prefix_len_stops (λ c. not (is_space c)) line 0 inside in
        grind (arith, nat_tests, stops)

    after-space : (line : List ℕ) (place : ℕ) → IsUtf8 line → place < length line → get_or line place 0 ≡ 32 → IsUtf8 (drop (place + 1) line)
    after-space line place text inside is =
        IsUtf8-drop line (place + 1) text (IsCharBoundary-after_ascii line place text inside (omega (arith, is)))

numbered-short : (ids number : ℕ) (feature : List ℕ) (id : Option ℕ) (row : IdRow) → IsUtf8 feature → numbered ids number feature id ≡ Ok row → IsFeatureShort row
numbered-short ids number feature None row text given = absurd cc
numbered-short ids number feature (Some id) row text given =
    elim (cases_Bool (nat_le ids id)) [
      | inl outside ↦ let never : Err (Range number) ≡ Ok row = rw outside at given in absurd cc
      | inr within ↦ elim (cases_Bool (is_long feature)) [
        | inl long ↦ let never : Err (Limit number) ≡ Ok row = rw (within, long) at given in absurd cc
        | inr short ↦
            let made : IdRow = record { id = id; feature = chars feature } in
            let here : Ok made ≡ Ok row = rw (within, short) at given in
            let same : made ≡ row = cc in
            subst IsFeatureShort same (IsShort-field feature text short)
      ]
    ]

id-short : (ids number : ℕ) (fields : Option IdFields) (row : IdRow) → IdTexts fields → fields_id ids number fields ≡ Ok row → IsFeatureShort row
id-short ids number None row text given = absurd cc
id-short ids number (Some fields) row text given = numbered-short ids number fields.feature (number_of fields.id) row text given

id_row-short : (ids number : ℕ) (line : List ℕ) (row : Option IdRow) → id_row ids number line ≡ Ok row → All IsFeatureShort (option_to_list row)
unfolding id_row
id_row-short ids number line row given =
    elim (cases_Bool (is_utf8 line)) [
      | inl text ↦ elim (cases_Bool (eqb (length line) 0)) [
        | inl empty ↦
            let here : Ok None ≡ Ok row = rw (text, empty) at given in
            let same : None ≡ row = cc in
            subst (λ row. All IsFeatureShort (option_to_list row)) same (All-nil IsFeatureShort)
        | inr some ↦
            let read : (id_in ids number line >>= (λ row. Ok (Some row))) ≡ Ok row = rw (text, some) at given in
            let (kept, kept_is, made) = part_gave (id_in ids number line) (λ row. Ok (Some row)) row read in
            let same : Some kept ≡ row = cc in
            subst (λ row. All IsFeatureShort (option_to_list row)) same (All-cons IsFeatureShort kept [] (id-short ids number (id_fields line) kept (id_fields-texts line text) kept_is) (All-nil IsFeatureShort))
      ]
      | inr bytes ↦ let never : Err (NotUtf8 number) ≡ Ok row = rw bytes at given in absurd cc
    ]

by_id-short : (first count : ℕ) (rows : List IdRow) → AllByRecursion IsFeatureShort rows → AllByRecursion IsFeatureShort (filter_map (λ id. find (has_id id) rows) (range_with_len first count))
by_id-short first zero rows all = tt
by_id-short first (suc count) rows all =
    elim (find (has_id first) rows) as (λ found. find (has_id first) rows ≡ found → AllByRecursion IsFeatureShort (filter_map (λ id. find (has_id id) rows) (range_with_len first (suc count)))) [
      | None ↦ λ found. rw found (by_id-short (first + 1) count rows all)
      | Some row ↦ λ found. rw found (found-has IsFeatureShort (has_id first) rows row all found, by_id-short (first + 1) count rows all)
    ] refl

pub features-short : (ids : ℕ) (bytes : List ℕ) (rows : List IdRow) → id_rows ids bytes ≡ Ok rows → All IsFeatureShort rows
features-short ids bytes rows given =
    let (all, read, kept) = part_gave (rows_after (λ _. id_row ids) [] 1 (lines_of bytes)) _ rows given in
    let same : by_id ids all ≡ rows = cc in
    let short : All IsFeatureShort all = rows_after-All IsFeatureShort (λ _. id_row ids) (λ _. id_row-short ids) [] 1 (lines_of bytes) all (All-nil IsFeatureShort) read in
    let last = latest-All IsFeatureShort same_id all (recursion_from_All IsFeatureShort all short) in
    subst (All IsFeatureShort) same (All-from_recursion IsFeatureShort _ (by_id-short 0 ids (latest same_id all) last))

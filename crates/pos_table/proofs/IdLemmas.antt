-- Ids rise, and the first row with a feature has the least id of it.
use Rattle.std.proofs.Common.{◌≡◌, ◌≢◌, ◌↔◌, ℕ, zero, suc, ◌+◌, ◌<◌, ◌≤◌, Bool, true, false, List, [], ◌∷◌, Some, None, Result, Ok, Err, length, get_or, refl, ap, ◌∙◌, arith, inl, inr, subst}
use Rattle.std.specs.List.{AllByRecursion, Contains, filter_map, find, range_with_len}
use Rattle.std.specs.Option.{option_map}
use Rattle.std.proofs.lemmas.Bool.{cases_Bool, false_from_ne_true}
use Rattle.std.proofs.lemmas.Bool.Decides.{nat_tests}
use Rattle.std.proofs.lemmas.List.Elements.{All-from_recursion}
use Rattle.std.proofs.lemmas.List.Kept.{AllPairs-cons}
use Rattle.std.proofs.lemmas.Slice.Eq.{bytes_eq-Decides}
use Rattle.mz_base.specs.Answers.{◌>>=◌}
use Rattle.mz_base.specs.Data.{is_text}
use Rattle.mz_base.specs.Latest.{latest}
use Rattle.mz_base.specs.Lines.{lines_of}
use Rattle.mz_base.specs.Rows.{rows_after}
use Rattle.mz_base.specs.declared.data.IdRow.{IdRow}
use Rattle.mz_base.specs.declared.fault.FaultKind.{FaultKind}
use Rattle.pos_table.specs.Ids.{RiseById, by_id, has_id, id_row, id_rows, same_id}
use Rattle.pos_table.specs.UserPos.{id_of}

module _ {A : Type 0} (p : A → Bool) where
  -- what is found has what is looked for
  pub found-passes : (xs : List A) (x : A) → find p xs ≡ Some x → p x ≡ true
  found-passes [] x found = absurd cc
  found-passes (first ∷ xs) x found =
      elim (cases_Bool (p first)) [
        | inl is ↦
            let here : Some first ≡ Some x = rw is at found in
            let same : first ≡ x = cc in
            subst (λ x. p x ≡ true) same is
        | inr other ↦ found-passes xs x (rw other at found)
      ]

  -- it is one of them
  found-Contains : (xs : List A) (x : A) → find p xs ≡ Some x → Contains xs x
  found-Contains [] x found = absurd cc
  found-Contains (first ∷ xs) x found =
      elim (cases_Bool (p first)) [
        | inl is ↦
            let here : Some first ≡ Some x = rw is at found in
            let same : first ≡ x = cc in (0, omega arith, same)
        | inr other ↦ let (k, below, reads) = found-Contains xs x (rw other at found) in (suc k, omega (arith, below), reads)
      ]

  -- where nothing is found, none has it
  none-passes : (xs : List A) → find p xs ≡ None → (k : ℕ) (d : A) → k < length xs → p (get_or xs k d) ≡ false
  none-passes [] none k d inside = absurd (omega arith)
  none-passes (first ∷ xs) none zero d inside =
      false_from_ne_true _ (λ is. let never : Some first ≡ None = rw is at none in absurd cc)
  none-passes (first ∷ xs) none (suc k) d inside =
      elim (cases_Bool (p first)) [
        | inl is ↦ let never : Some first ≡ None = rw is at none in absurd cc
        | inr other ↦ none-passes xs (rw other at none) k d (omega arith)
      ]

-- the id that a found row has
found-id : (id : ℕ) (rows : List IdRow) (row : IdRow) → find (has_id id) rows ≡ Some row → id ≡ row.id
found-id id rows row found =
    let is = found-passes (has_id id) rows row found in grind (arith, nat_tests, is)

-- the rows of ids from a number on
rows_from : (least first count : ℕ) (rows : List IdRow) → least ≤ first → AllByRecursion (λ row. least ≤ row.id) (filter_map (λ id. find (has_id id) rows) (range_with_len first count))
rows_from least first zero rows from = tt
rows_from least first (suc count) rows from =
    elim (find (has_id first) rows) as (λ found. find (has_id first) rows ≡ found → AllByRecursion (λ row. least ≤ row.id) (filter_map (λ id. find (has_id id) rows) (range_with_len first (suc count)))) [
      | None ↦ λ found. rw found (rows_from least (first + 1) count rows (omega (arith, from)))
      | Some row ↦ λ found. rw found (omega (arith, from, found-id first rows row found), rows_from least (first + 1) count rows (omega (arith, from)))
    ] refl

ids-rise : (first count : ℕ) (rows : List IdRow) → RiseById (filter_map (λ id. find (has_id id) rows) (range_with_len first count))
ids-rise first zero rows = λ i j d less inside. absurd (omega arith)
ids-rise first (suc count) rows =
    let rest : List IdRow = filter_map (λ id. find (has_id id) rows) (range_with_len (first + 1) count) in
    elim (find (has_id first) rows) as (λ found. find (has_id first) rows ≡ found → RiseById (filter_map (λ id. find (has_id id) rows) (range_with_len first (suc count)))) [
      | None ↦ λ found. rw found (ids-rise (first + 1) count rows)
      | Some row ↦ λ found. rw found (AllPairs-cons (λ (row : IdRow) (later : IdRow). row.id < later.id) row rest (above row rest (found-id first rows row found) (rows_from (first + 1) (first + 1) count rows (omega arith))) (ids-rise (first + 1) count rows))
    ] refl
  where
    above : (row : IdRow) (rest : List IdRow) → first ≡ row.id → AllByRecursion (λ other. first + 1 ≤ other.id) rest → (k : ℕ) (d : IdRow) → k < length rest → row.id < (get_or rest k d).id
    above row rest same from k d inside =
        let more = All-from_recursion (λ (other : IdRow). first + 1 ≤ other.id) rest from k d inside in omega (arith, same, more)

pub by_id-rise : (ids : ℕ) (rows : List IdRow) → RiseById (by_id ids rows)
by_id-rise ids rows = ids-rise 0 ids (latest same_id rows)

read-rise : (ids : ℕ) (read : Result (List IdRow) FaultKind) (rows : List IdRow) → (read >>= (λ all. Ok (by_id ids all))) ≡ Ok rows → RiseById rows
read-rise ids (Err kind) rows given = absurd cc
read-rise ids (Ok all) rows given =
    let same : by_id ids all ≡ rows = cc in subst RiseById same (by_id-rise ids all)

pub id_rows-rise : (ids : ℕ) (bytes : List ℕ) (rows : List IdRow) → id_rows ids bytes ≡ Ok rows → RiseById rows
id_rows-rise ids bytes rows given =
    read-rise ids (rows_after (λ _. id_row ids) [] 1 (lines_of bytes)) rows given

-- the row has this feature
abbrev has_feature : List ℕ → IdRow → Bool
has_feature feature row = is_text feature row.feature

-- the id that is given is that of a found row
given-found : (rows : List IdRow) (feature : List ℕ) (id : ℕ) → id_of rows feature ≡ Some id → (row : IdRow) × (find (has_feature feature) rows ≡ Some row) × (row.id ≡ id)
given-found rows feature id given =
    elim (find (has_feature feature) rows) as (λ found. find (has_feature feature) rows ≡ found → option_map (λ (row : IdRow). row.id) found ≡ Some id → (row : IdRow) × (find (has_feature feature) rows ≡ Some row) × (row.id ≡ id)) [
      | None ↦ λ found none. absurd cc
      | Some row ↦ λ found some. (row, found, cc)
    ] refl given

has-row : (rows : List IdRow) (row : IdRow) (feature : List ℕ) (id : ℕ) → row.id ≡ id → row.feature ≡ feature → Contains rows row → Contains rows (record { id = id; feature = feature })
has-row rows row feature id same is held =
    let whole : row ≡ (record { id = id; feature = feature }) = λ i. record { id = same i; feature = is i } in
    subst (Contains rows) whole held

pub id_of-one : (rows : List IdRow) (feature : List ℕ) (id : ℕ) → id_of rows feature ≡ Some id → Contains rows (record { id = id; feature = feature })
id_of-one rows feature id given =
    let (row, found, same) = given-found rows feature id given in
    has-row rows row feature id same ((bytes_eq-Decides row.feature feature).0 (found-passes (has_feature feature) rows row found)) (found-Contains (has_feature feature) rows row found)

first-least : (feature : List ℕ) (rows : List IdRow) (first : IdRow) → RiseById rows → find (has_feature feature) rows ≡ Some first → (k : ℕ) (d : IdRow) → k < length rows → has_feature feature (get_or rows k d) ≡ true → first.id ≤ (get_or rows k d).id
first-least feature [] first rise found k d inside passes = absurd (omega arith)
first-least feature (row ∷ rows) first rise found zero d inside passes =
    let here : Some row ≡ Some first = rw passes at found in
    let same : row.id ≡ first.id = cc in
    omega (arith, same)
first-least feature (row ∷ rows) first rise found (suc k) d inside passes =
    elim (cases_Bool (has_feature feature row)) [
      | inl is ↦
          let here : Some row ≡ Some first = rw is at found in
          let same : row.id ≡ first.id = cc in
          let more = rise 0 (suc k) d (omega arith) inside in
          omega (arith, same, more)
      | inr other ↦ first-least feature rows first (λ i j d less within. rise (suc i) (suc j) d (omega arith) (omega arith)) (rw other at found) k d (omega arith) passes
    ]

pub id_of-least : (rows : List IdRow) (feature : List ℕ) (id : ℕ) (row : IdRow) → RiseById rows → id_of rows feature ≡ Some id → Contains rows row → row.feature ≡ feature → id ≤ row.id
id_of-least rows feature id row rise given (k, below, reads) is =
    let (first, found, same) = given-found rows feature id given in
    let passes : has_feature feature (get_or rows k row) ≡ true = (bytes_eq-Decides (get_or rows k row).feature feature).1 (ap (λ (row : IdRow). row.feature) reads ∙ is) in
    let least = first-least feature rows first rise found k row below passes in
    omega (arith, same, least, ap (λ (row : IdRow). row.id) reads)

pub id_of-none : (rows : List IdRow) (feature : List ℕ) → (id_of rows feature ≡ None) ↔ ((row : IdRow) → Contains rows row → row.feature ≢ feature)
id_of-none rows feature = (
  λ none row (k, below, reads) is.
      elim (find (has_feature feature) rows) as (λ found. find (has_feature feature) rows ≡ found → option_map (λ (row : IdRow). row.id) found ≡ None → ⊥) [
        | None ↦ λ found none.
            let fails = none-passes (has_feature feature) rows found k row below in
            let passes : has_feature feature (get_or rows k row) ≡ true = (bytes_eq-Decides (get_or rows k row).feature feature).1 (ap (λ (row : IdRow). row.feature) reads ∙ is) in
            absurd cc
        | Some row ↦ λ found some. absurd cc
      ] refl none,
  λ none.
      elim (find (has_feature feature) rows) as (λ found. find (has_feature feature) rows ≡ found → option_map (λ (row : IdRow). row.id) found ≡ None) [
        | None ↦ λ found. refl
        | Some row ↦ λ found.
            let is : row.feature ≡ feature = (bytes_eq-Decides row.feature feature).0 (found-passes (has_feature feature) rows row found) in
            absurd (none row (found-Contains (has_feature feature) rows row found) is)
      ] refl,
)

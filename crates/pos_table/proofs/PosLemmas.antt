-- The ids of an id file and of a file of parts of speech are there, and the costs within their limits.
use Rattle.std.proofs.Common.{◌≡◌, ℕ, zero, suc, ◌+◌, ◌<◌, ◌≤◌, ℤ, Bool, true, eqb, List, [], ◌∷◌, Option, Some, None, Result, Ok, Err, length, refl, arith, inl, inr, subst}
use Rattle.std.specs.List.{AllByRecursion, filter_map, find, range_with_len}
use Rattle.std.specs.List.Sorted.{IsPermutation}
use Rattle.std.specs.Option.{option_map}
use Rattle.std.specs.Str.{chars}
use Rattle.std.proofs.lemmas.Bool.{cases_Bool}
use Rattle.std.proofs.lemmas.Bool.Decides.{nat_tests}
use Rattle.std.proofs.lemmas.List.Elements.{recursion_from_All}
use Rattle.mz_base.specs.Answers.{◌>>=◌}
use Rattle.mz_base.specs.ByName.{RiseByName, latest_by_name, name_before}
use Rattle.mz_base.specs.Data.{IsNode, is_text}
use Rattle.mz_base.specs.Latest.{latest}
use Rattle.mz_base.specs.Limits.{is_cost, is_long}
use Rattle.mz_base.specs.Lines.{fields_of, lines_of}
use Rattle.mz_base.specs.Numbers.{signed_of}
use Rattle.mz_base.specs.Rows.{rows_after, table_rows}
use Rattle.mz_base.specs.declared.data.IdRow.{IdRow}
use Rattle.mz_base.specs.declared.data.PosRow.{PosRow}
use Rattle.mz_base.specs.declared.fault.FaultKind.{FaultKind}
use Rattle.mz_base.specs.declared.fault.FaultKind.TheVariants.{Empty, Range, Limit}
use Rattle.mz_base.proofs.AnswerLemmas.{part_gave}
use Rattle.mz_base.proofs.ByNameLemmas.{latest-All, latest_by_name-rise, latest_by_name-same}
use Rattle.mz_base.proofs.LimitLemmas.{IsCost-from_test}
use Rattle.mz_base.proofs.RowFacts.{table_rows-All}
use Rattle.mz_base.proofs.SortLemmas.{in_order-All}
use Rattle.pos_table.proofs.IdLemmas.{found-passes}
use Rattle.pos_table.specs.Ids.{by_id, has_id, id_row, id_rows, same_id}
use Rattle.pos_table.specs.Nodes.{AreIds, ArePosNodes}
use Rattle.pos_table.specs.UserPos.{PosFields, featured, fields_pos, id_of, name_of, pos_fields, pos_in, pos_rows, priced, same_pos}

-- what is found is one of them
pub found-has : {A : Type 0} (P : A → Type 0) (p : A → Bool) (xs : List A) (x : A) → AllByRecursion P xs → find p xs ≡ Some x → P x
found-has P p [] x all found = absurd cc
found-has P p (first ∷ xs) x all found =
    elim (cases_Bool (p first)) [
      | inl is ↦
          let here : Some first ≡ Some x = rw is at found in
          let same : first ≡ x = cc in
          subst P same all.0
      | inr other ↦ found-has P p xs x all.1 (rw other at found)
    ]

-- the id that a found row has
row-below : (ids id : ℕ) (rows : List IdRow) (row : IdRow) → id < ids → find (has_id id) rows ≡ Some row → row.id < ids
row-below ids id rows row below found =
    let is = found-passes (has_id id) rows row found in
    let same : id ≡ row.id = grind (arith, nat_tests, is) in
    subst (λ n. n < ids) same below

by_id-AreIds : (ids first count : ℕ) (rows : List IdRow) → first + count ≤ ids → AreIds ids (filter_map (λ id. find (has_id id) rows) (range_with_len first count))
by_id-AreIds ids first zero rows within = tt
by_id-AreIds ids first (suc count) rows within =
    elim (find (has_id first) rows) as (λ found. find (has_id first) rows ≡ found → AreIds ids (filter_map (λ id. find (has_id id) rows) (range_with_len first (suc count)))) [
      | None ↦ λ found. rw found (by_id-AreIds ids (first + 1) count rows (omega (arith, within)))
      | Some row ↦ λ found. rw found (row-below ids first rows row (omega (arith, within)) found, by_id-AreIds ids (first + 1) count rows (omega (arith, within)))
    ] refl

ids-AreIds : (ids : ℕ) (read : Result (List IdRow) FaultKind) (rows : List IdRow) → (read >>= (λ all. Ok (by_id ids all))) ≡ Ok rows → AreIds ids rows
ids-AreIds ids (Err kind) rows given = absurd cc
ids-AreIds ids (Ok all) rows given =
    let same : by_id ids all ≡ rows = cc in
    subst (AreIds ids) same (by_id-AreIds ids 0 ids (latest same_id all) (omega arith))

pub AreIds-read : (ids : ℕ) (bytes : List ℕ) (rows : List IdRow) → id_rows ids bytes ≡ Ok rows → AreIds ids rows
AreIds-read ids bytes rows given =
    ids-AreIds ids (rows_after (λ _. id_row ids) [] 1 (lines_of bytes)) rows given

-- an id that there is, and a cost
pub record HasNode (ids : ℕ) (row : PosRow) : Type 0 where
  pub node : IsNode ids (row.id, row.cost)

-- the id of a feature
feature-below : (ids : ℕ) (features : List IdRow) (feature : List ℕ) (id : ℕ) → AreIds ids features → id_of features feature ≡ Some id → id < ids
feature-below ids features feature id are is =
    elim (find (λ (row : IdRow). is_text feature row.feature) features) as (λ found. find (λ (row : IdRow). is_text feature row.feature) features ≡ found → option_map (λ (row : IdRow). row.id) found ≡ Some id → id < ids) [
      | None ↦ λ found none. absurd cc
      | Some row ↦ λ found some.
          let same : row.id ≡ id = cc in
          subst (λ n. n < ids) same (found-has (λ row. row.id < ids) (λ (row : IdRow). is_text feature row.feature) features row are found)
    ] refl is

featured-HasNode : (ids number : ℕ) (fields : PosFields) (cost : ℤ) (id : Option ℕ) (row : PosRow) → is_cost cost ≡ true → ((n : ℕ) → id ≡ Some n → n < ids) → featured number fields cost id ≡ Ok row → HasNode ids row
featured-HasNode ids number fields cost None row small below given = absurd cc
featured-HasNode ids number fields cost (Some id) row small below given =
    elim (cases_Bool (is_long fields.name)) [
      | inl long ↦ let never : Err (Limit number) ≡ Ok row = rw long at given in absurd cc
      | inr short ↦
          let is : Ok (record { name = chars fields.name; id = id; cost = cost }) ≡ Ok row = rw short at given in
          let same : (record { name = chars fields.name; id = id; cost = cost }) ≡ row = cc in
          subst (HasNode ids) same (record { node = record { id = below id refl; cost = IsCost-from_test cost small } })
    ]

priced-HasNode : (ids : ℕ) (features : List IdRow) (number : ℕ) (fields : PosFields) (cost : Option ℤ) (row : PosRow) → AreIds ids features → priced features number fields cost ≡ Ok row → HasNode ids row
priced-HasNode ids features number fields None row are given = absurd cc
priced-HasNode ids features number fields (Some cost) row are given =
    elim (cases_Bool (is_cost cost)) [
      | inl small ↦ featured-HasNode ids number fields cost (id_of features (chars fields.feature)) row small (λ n is. feature-below ids features (chars fields.feature) n are is) (rw small at given)
      | inr large ↦ let never : Err (Range number) ≡ Ok row = rw large at given in absurd cc
    ]

fields-HasNode : (ids : ℕ) (features : List IdRow) (number : ℕ) (fields : Option PosFields) (row : PosRow) → AreIds ids features → fields_pos features number fields ≡ Ok row → HasNode ids row
fields-HasNode ids features number None row are given = absurd cc
fields-HasNode ids features number (Some fields) row are given =
    elim (cases_Bool (eqb (length fields.name) 0)) [
      | inl empty ↦ let never : Err (Empty number) ≡ Ok row = rw empty at given in absurd cc
      | inr named ↦ priced-HasNode ids features number fields (signed_of 10 fields.cost) row are (rw named at given)
    ]

nodes-from : (ids : ℕ) (rows : List PosRow) → AllByRecursion (HasNode ids) rows → ArePosNodes ids rows
nodes-from ids [] all = tt
nodes-from ids (row ∷ rows) all = (all.0.node, nodes-from ids rows all.1)

-- the rows that are kept are rows
latest-ArePosNodes : (ids : ℕ) (rows : List PosRow) → AllByRecursion (HasNode ids) rows → ArePosNodes ids (latest_by_name name_of rows)
latest-ArePosNodes ids rows all =
    nodes-from ids (latest_by_name name_of rows) (in_order-All (name_before name_of) (HasNode ids) (latest same_pos rows) (latest-All (HasNode ids) same_pos rows all))

pub ArePosNodes-read : (ids : ℕ) (features : List IdRow) (bytes : List ℕ) (rows : List PosRow) → AreIds ids features → pos_rows features bytes ≡ Ok rows → ArePosNodes ids rows
ArePosNodes-read ids features bytes rows are given =
    let (all, read, kept) = part_gave (table_rows (pos_in features) bytes) _ rows given in
    let same : latest_by_name name_of all ≡ rows = cc in
    subst (ArePosNodes ids) same (latest-ArePosNodes ids all (recursion_from_All (HasNode ids) all (table_rows-All (HasNode ids) (pos_in features) (λ number line row text given. fields-HasNode ids features number (pos_fields (fields_of line)) row are given) bytes all read)))

-- the names rise
pub RiseByName-read : (features : List IdRow) (bytes : List ℕ) (rows : List PosRow) → pos_rows features bytes ≡ Ok rows → RiseByName name_of rows
RiseByName-read features bytes rows given =
    let (all, read, kept) = part_gave (table_rows (pos_in features) bytes) _ rows given in
    let same : latest_by_name name_of all ≡ rows = cc in
    subst (RiseByName name_of) same (latest_by_name-rise name_of all)

-- the rows are those that no later row repeats
pub same-read : (features : List IdRow) (bytes : List ℕ) (all rows : List PosRow) → table_rows (pos_in features) bytes ≡ Ok all → pos_rows features bytes ≡ Ok rows → IsPermutation (latest same_pos all) rows
same-read features bytes all rows read given =
    let kept : Ok (latest_by_name name_of all) ≡ Ok rows = rw read at given in
    let same : latest_by_name name_of all ≡ rows = cc in
    subst (IsPermutation (latest same_pos all)) same (latest_by_name-same name_of all)

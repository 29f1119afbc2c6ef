-- The nodes of a file of unknown words are within their limits.
use Rattle.std.proofs.Common.{◌≡◌, ℕ, suc, ◌<◌, Bool, List, [], ◌∷◌, Option, Some, None, Result, Ok, Err, unwrap_or, refl, arith, inl, inr, subst}
use Rattle.std.specs.List.{All, AllByRecursion, find, list_any}
use Rattle.std.specs.Option.{option_map}
use Rattle.std.proofs.lemmas.Bool.{cases_Bool}
use Rattle.std.proofs.lemmas.Bool.Decides.{nat_tests}
use Rattle.mz_base.specs.Answers.{◌>>=◌}
use Rattle.mz_base.specs.Data.{IsNode}
use Rattle.mz_base.specs.Latest.{latest}
use Rattle.mz_base.specs.Lines.{fields_of}
use Rattle.mz_base.specs.Rows.{table_rows}
use Rattle.mz_base.specs.declared.data.Class.{Class}
use Rattle.mz_base.specs.declared.data.Class.TheVariants.{Hiragana, Katakana, Digit, Letter, Other}
use Rattle.mz_base.specs.declared.data.UnknownRow.{UnknownRow}
use Rattle.mz_base.specs.declared.fault.FaultKind.{FaultKind}
use Rattle.mz_base.specs.declared.fault.FaultKind.TheVariants.{Range}
use Rattle.mz_base.proofs.LimitLemmas.{IsCost-from_test}
use Rattle.mz_base.proofs.RowFacts.{table_rows-All}
use Rattle.pos_table.specs.Classes.{ClassFields, class_fields, class_in, class_named, class_numbers, classed, fields_class, has_class, is_node, last_node, no_node, node_of, nodes_of, ranged, same_class, unknown_rows}
use Rattle.pos_table.specs.Nodes.{AreNodes}
use Rattle.pos_table.specs.declared.unknown.ClassRow.{ClassRow}

-- the row's node is within its limits
pub record HasNode (ids : ℕ) (row : ClassRow) : Type 0 where
  pub node : IsNode ids (row.node.id, row.node.cost)

ranged-HasNode : (ids number : ℕ) (class : Class) (node : Option UnknownRow) (row : ClassRow) → ranged ids number class node ≡ Ok row → HasNode ids row
ranged-HasNode ids number class None row given = absurd cc
ranged-HasNode ids number class (Some node) row given =
    elim (cases_Bool (is_node ids node)) [
      | inl within ↦
          let is : Ok (record { class = class; node = node }) ≡ Ok row = rw within at given in
          let same : (record { class = class; node = node }) ≡ row = cc in
          subst (HasNode ids) same (record { node = record { id = grind (arith, nat_tests, within); cost = IsCost-from_test node.cost (grind (arith, nat_tests, within)) } })
      | inr outside ↦ let never : Err (Range number) ≡ Ok row = rw outside at given in absurd cc
    ]

classed-HasNode : (ids number : ℕ) (fields : ClassFields) (class : Option Class) (row : ClassRow) → classed ids number fields class ≡ Ok row → HasNode ids row
classed-HasNode ids number fields None row given = absurd cc
classed-HasNode ids number fields (Some class) row given =
    ranged-HasNode ids number class (class_numbers fields) row given

fields-HasNode : (ids number : ℕ) (fields : Option ClassFields) (row : ClassRow) → fields_class ids number fields ≡ Ok row → HasNode ids row
fields-HasNode ids number None row given = absurd cc
fields-HasNode ids number (Some fields) row given =
    classed-HasNode ids number fields (class_named fields.class) row given

-- what is found among the latest rows is a row
found-HasNode : (ids : ℕ) (p : ClassRow → Bool) (rows : List ClassRow) (row : ClassRow) → AllByRecursion (HasNode ids) rows → find p (latest same_class rows) ≡ Some row → HasNode ids row
found-HasNode ids p [] row all found = absurd cc
found-HasNode ids p (first ∷ rows) row all found =
    elim (cases_Bool (list_any (same_class first) rows)) [
      | inl repeats ↦ found-HasNode ids p rows row all.1 (rw repeats at found)
      | inr last ↦ elim (cases_Bool (p first)) [
        | inl is ↦
            let here : Some first ≡ Some row = rw (last, is) at found in
            let same : first ≡ row = cc in
            subst (HasNode ids) same all.0
        | inr other ↦ found-HasNode ids p rows row all.1 (rw (last, other) at found)
      ]
    ]

-- the node of a class, or else this one
node-or : (ids : ℕ) (found : Option ClassRow) (other : UnknownRow) → ((row : ClassRow) → found ≡ Some row → HasNode ids row) → IsNode ids (other.id, other.cost) → IsNode ids ((unwrap_or (option_map (λ (row : ClassRow). row.node) found) other).id, (unwrap_or (option_map (λ (row : ClassRow). row.node) found) other).cost)
node-or ids None other each otherwise = otherwise
node-or ids (Some row) other each otherwise = (each row refl).node

pub node_of-IsNode : (ids : ℕ) (rows : List ClassRow) (class : Class) → 0 < ids → AllByRecursion (HasNode ids) rows → IsNode ids ((node_of rows class).id, (node_of rows class).cost)
node_of-IsNode ids rows class some all =
    let found = λ (class : Class). λ (row : ClassRow). found-HasNode ids (has_class class) rows row all in
    node-or ids (find (has_class class) (latest same_class rows)) (unwrap_or (last_node rows Other) no_node) (found class) (node-or ids (find (has_class Other) (latest same_class rows)) no_node (found Other) (record { id = omega (arith, some); cost = IsCost-from_test no_node.cost refl }))

AllByRecursion-All : {A : Type 0} (P : A → Type 0) (xs : List A) → All P xs → AllByRecursion P xs
AllByRecursion-All P [] all = tt
AllByRecursion-All P (x ∷ xs) all = (all 0 x (omega arith), AllByRecursion-All P xs (λ k d inside. all (suc k) d (omega arith)))

read-AreNodes : (ids : ℕ) (read : Result (List ClassRow) FaultKind) (rows : List UnknownRow) → 0 < ids → ((all : List ClassRow) → read ≡ Ok all → AllByRecursion (HasNode ids) all) → (read >>= (λ all. Ok (nodes_of all))) ≡ Ok rows → AreNodes ids rows
read-AreNodes ids (Err kind) rows some each given = absurd cc
read-AreNodes ids (Ok all) rows some each given =
    let same : nodes_of all ≡ rows = cc in
    let node = λ (class : Class). node_of-IsNode ids all class some (each all refl) in
    subst (AreNodes ids) same (node Hiragana, (node Katakana, (node Digit, (node Letter, (node Other, tt)))))

pub AreNodes-read : (ids : ℕ) (bytes : List ℕ) (rows : List UnknownRow) → 0 < ids → unknown_rows ids bytes ≡ Ok rows → AreNodes ids rows
AreNodes-read ids bytes rows some given =
    read-AreNodes ids (table_rows (class_in ids) bytes) rows some (λ all read. AllByRecursion-All (HasNode ids) all (table_rows-All (HasNode ids) (class_in ids) (λ number line row text given. fields-HasNode ids number (class_fields (fields_of line)) row given) bytes all read)) given

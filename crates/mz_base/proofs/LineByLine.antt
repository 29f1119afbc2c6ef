-- A file is read line by line, up to its first fault.
use Rattle.std.proofs.Common.{◌≡◌, ℕ, ◌+◌, ◌<◌, zero, suc, List, [], ◌∷◌, ◌++◌, length, slice_index_or, Option, None, Result, Ok, Err, option_to_list, refl, sym, ◌∙◌, ap, arith, append_assoc, append-nil}
use Rattle.std.specs.List.{flat_map}
use Rattle.mz_base.specs.Rows.{rows_after, IsGiven, AreRowsOf, IsFirstFault}
use Rattle.mz_base.specs.declared.fault.FaultKind.{FaultKind}

module _ {Row : Type 0} (read : List Row → ℕ → List ℕ → Result (Option Row) FaultKind) where
  -- one line further
  given-later : (before : List Row) (first : ℕ) (line : List ℕ) (lines : List (List ℕ)) (row : Option Row) → read before first line ≡ Ok row → (place : ℕ) (found : Option Row) → IsGiven read (before ++ option_to_list row) (first + 1) lines place found → IsGiven read before first (line ∷ lines) (suc place) found
  given-later before first line lines row is place found later =
      let number : first + suc place ≡ (first + 1) + place = omega arith in
      record {
        rows = later.rows;
        so_far = rw is later.so_far;
        given = rw number later.given;
      }

  given-first : (before : List Row) (first : ℕ) (line : List ℕ) (lines : List (List ℕ)) (row : Option Row) → read before first line ≡ Ok row → IsGiven read before first (line ∷ lines) 0 row
  given-first before first line lines row is =
      let number : first + 0 ≡ first = omega arith in
      record { rows = before; so_far = refl; given = rw number is }

  each-given : (before : List Row) (first : ℕ) (line : List ℕ) (lines : List (List ℕ)) (row : Option Row) (all : List Row) → read before first line ≡ Ok row → (rest : AreRowsOf read (before ++ option_to_list row) (first + 1) lines all) → (place : ℕ) → place < length (line ∷ lines) → IsGiven read before first (line ∷ lines) place (slice_index_or (row ∷ rest.each) place None)
  each-given before first line lines row all is rest zero inside = given-first before first line lines row is
  each-given before first line lines row all is rest (suc place) inside =
      given-later before first line lines row is place _ (rest.given place (omega arith))

  after-first : (before : List Row) (first : ℕ) (line : List ℕ) (lines : List (List ℕ)) (all : List Row) → ((row : Option Row) → rows_after read (before ++ option_to_list row) (first + 1) lines ≡ Ok all → AreRowsOf read (before ++ option_to_list row) (first + 1) lines all) → (given : Result (Option Row) FaultKind) → read before first line ≡ given → rows_after read before first (line ∷ lines) ≡ Ok all → AreRowsOf read before first (line ∷ lines) all
  after-first before first line lines all later (Ok row) given is =
      let rest : AreRowsOf read (before ++ option_to_list row) (first + 1) lines all = later row (rw given at is) in
      record {
        each = row ∷ rest.each;
        as_many = ap (λ n. suc n) rest.as_many;
        joined = rest.joined ∙ append_assoc before (option_to_list row) (flat_map option_to_list rest.each);
        given = each-given before first line lines row all given rest;
      }
  after-first before first line lines all later (Err kind) given is =
      let never : Err kind ≡ Ok all = rw given at is in absurd cc

  -- each line gives its row
  pub rows_after-ok : (before : List Row) (first : ℕ) (lines : List (List ℕ)) (all : List Row) → rows_after read before first lines ≡ Ok all → AreRowsOf read before first lines all
  rows_after-ok before first [] all is =
      let same : before ≡ all = cc in
      record {
        each = [];
        as_many = refl;
        joined = sym same ∙ sym (append-nil before);
        given = λ place inside. absurd (omega arith);
      }
  rows_after-ok before first (line ∷ lines) all is =
      after-first before first line lines all (λ row. rows_after-ok (before ++ option_to_list row) (first + 1) lines all) (read before first line) refl is

  fault-later : (before : List Row) (first : ℕ) (line : List ℕ) (lines : List (List ℕ)) (kind : FaultKind) → ((row : Option Row) → rows_after read (before ++ option_to_list row) (first + 1) lines ≡ Err kind → IsFirstFault read (before ++ option_to_list row) (first + 1) lines kind) → (given : Result (Option Row) FaultKind) → read before first line ≡ given → rows_after read before first (line ∷ lines) ≡ Err kind → IsFirstFault read before first (line ∷ lines) kind
  fault-later before first line lines kind later (Ok row) given is =
      let rest : IsFirstFault read (before ++ option_to_list row) (first + 1) lines kind = later row (rw given at is) in
      let number : first + suc rest.place ≡ (first + 1) + rest.place = omega arith in
      record {
        place = suc rest.place;
        inside = let there : rest.place < length lines = rest.inside in omega arith;
        rows = rest.rows;
        so_far = rw given rest.so_far;
        faulty = rw number rest.faulty;
      }
  fault-later before first line lines kind later (Err other) given is =
      let same : other ≡ kind = let e : Err other ≡ Err kind = rw given at is in cc in
      let number : first + 0 ≡ first = omega arith in
      record {
        place = 0;
        inside = omega arith;
        rows = before;
        so_far = refl;
        faulty = rw number (given ∙ ap (λ k. Err k) same);
      }

  -- the first fault is that of a line, and those before it read
  pub rows_after-err : (before : List Row) (first : ℕ) (lines : List (List ℕ)) (kind : FaultKind) → rows_after read before first lines ≡ Err kind → IsFirstFault read before first lines kind
  rows_after-err before first [] kind is = absurd cc
  rows_after-err before first (line ∷ lines) kind is =
      fault-later before first line lines kind (λ row. rows_after-err (before ++ option_to_list row) (first + 1) lines kind) (read before first line) refl is

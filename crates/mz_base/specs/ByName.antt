-- Rows that texts name: of one name the last, in the order of the names.
use Rattle.std.specs.Prelude.{ℕ, Bool, IsTrue, List}
use Rattle.std.specs.Cmp.Lexicographic.{slice_cmp}
use Rattle.std.specs.List.{AllPairs}
use Rattle.std.specs.Ordering.{is_lt, nat_cmp}
use Rattle.std.specs.Str.{bytes_eq}
use Rattle.mz_base.specs.Latest.{latest}
use Rattle.mz_base.specs.Ordered.{in_order}

-- One text comes before another, character by character. UTF-8 keeps this order, so its bytes come before the other's.
abbrev pub text_before : List ℕ → List ℕ → Bool
text_before text other = is_lt (slice_cmp nat_cmp text other)

-- the name of the row comes before that of the other
abbrev pub name_before : {A : Type 0} → (A → List ℕ) → A → A → Bool
name_before name row other = text_before (name row) (name other)

-- the rows have one name
abbrev pub same_name : {A : Type 0} → (A → List ℕ) → A → A → Bool
same_name name row other = bytes_eq (name row) (name other)

-- of the rows of one name the last, in the order of the names
abbrev pub latest_by_name : {A : Type 0} → (A → List ℕ) → List A → List A
latest_by_name name rows = in_order (name_before name) (latest (same_name name) rows)

-- the names rise: each comes before all later ones
abbrev pub RiseByName : {A : Type 0} → (A → List ℕ) → List A → Type 0
RiseByName name = AllPairs (λ row later. IsTrue (name_before name row later))

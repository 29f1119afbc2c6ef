-- Jobs, users, the reloads of a user and clients are numbered from 1.
use Rattle.std.specs.Prelude.{◌≡◌, ◌≢◌, ℕ, zero, suc, ◌&&◌, Bool, IsTrue, List, length, nat_le, nat_lt, slice_index_or, slice_set}
use Rattle.std.specs.List.{range_with_len}

-- a number of the list
abbrev pub is_number : {A : Type 0} → List A → ℕ → Bool
is_number items number = nat_lt 0 number && nat_le number (length items)

-- all numbers of a list of this length
abbrev pub numbers : ℕ → List ℕ
numbers count = range_with_len 1 count

-- what stands at a number, or `none` where nothing does
abbrev pub at_number : {A : Type 0} → A → List A → ℕ → A
at_number none items zero = none
at_number none items (suc place) = slice_index_or items place none

-- another thing stands at a number
abbrev pub with_number : {A : Type 0} → List A → ℕ → A → List A
with_number items zero item = items
with_number items (suc place) item = slice_set items place item

-- ---- What is read after a write

abbrev pub WrittenIsRead : Type 0 → Type 0
WrittenIsRead A =
    (none : A) (items : List A) (number : ℕ) (item : A) → IsTrue (is_number items number) → at_number none (with_number items number item) number ≡ item

abbrev pub OthersStay : Type 0 → Type 0
OthersStay A =
    (none : A) (items : List A) (number other : ℕ) (item : A) → number ≢ other → at_number none (with_number items number item) other ≡ at_number none items other

abbrev pub CountStays : Type 0 → Type 0
CountStays A = (items : List A) (number : ℕ) (item : A) → length (with_number items number item) ≡ length items

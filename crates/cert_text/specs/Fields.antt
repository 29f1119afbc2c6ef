-- What lists of fields spell: docs/FORMATS.md, "Certificates".
use Rattle.std.specs.Prelude.{ℕ, ◌<◌, ◌≤◌, ℤ, Bool, true, All, ◌&&◌, ◌==◌, List, [], ◌∷◌, Option, Some, None, option_and_then, option_map, if◌then◌else◌, bytes_eq, nat_lt, nat_le}
use Rattle.std.specs.List.{slice_split}
use Rattle.std.specs.List.Sorted.{IsStrictlyIncreasing}
use Rattle.mz_base.specs.Numbers.{number_of, signed_of}
use Rattle.cert_text.specs.declared.field.TheConstants.{MOST_ORDINAL}
use Rattle.mz_base.specs.declared.numbers.TheConstants.{MOST_SIGNED_DIGITS}

-- the fields after this word, where a line begins with it
abbrev pub after_word : List ℕ → List (List ℕ) → Option (List (List ℕ))
after_word word [] = None
after_word word (first ∷ rest) = if bytes_eq first word then Some rest else None

-- the values of all fields, where each field has one
abbrev pub values_of : {A : Type 0} → (List ℕ → Option A) → List (List ℕ) → Option (List A)
values_of value_of [] = Some []
values_of value_of (field ∷ fields) =
    option_and_then (λ value. option_map (λ values. value ∷ values) (values_of value_of fields)) (value_of field)

-- a value that passes a test
abbrev pub only_if : {A : Type 0} → (A → Bool) → A → Option A
only_if passes value = if passes value then Some value else None

-- an ordinal
abbrev pub ordinal_of : List ℕ → Option ℕ
ordinal_of field = option_and_then (only_if (λ n. nat_le n MOST_ORDINAL)) (number_of field)

-- a potential, or a total
abbrev pub potential_of : List ℕ → Option ℤ
potential_of field = signed_of MOST_SIGNED_DIGITS field

-- the one field of a line's end is its total
abbrev pub total_of : List (List ℕ) → Option ℤ
total_of (field ∷ []) = potential_of field
total_of _ = None

-- each number is above the one before it, and none is above the last position
abbrev pub rises : ℕ → ℕ → List ℕ → Bool
rises last before [] = true
rises last before (bound ∷ bounds) = nat_lt before bound && (nat_le bound last && rises last bound bounds)

-- the bounds of a key of this length: numbers that rise, from at least 1 to at most the length
abbrev pub bounds_of : ℕ → List (List ℕ) → Option (List ℕ)
bounds_of key_length fields = option_and_then (only_if (rises key_length 0)) (values_of number_of fields)

-- the bounds in a text, with commas between them
abbrev pub bounds_in : ℕ → List ℕ → Option (List ℕ)
bounds_in key_length text = bounds_of key_length (slice_split (λ b. b == 44) text)

-- the bounds rise, from at least 1 to at most the last position
pub record RiseWithin (last : ℕ) (bounds : List ℕ) : Type 0 where
  pub rising : IsStrictlyIncreasing bounds
  pub inside : All (λ bound. (0 < bound) × (bound ≤ last)) bounds

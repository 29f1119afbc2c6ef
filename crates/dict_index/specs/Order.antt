-- The places of texts, in the order of the texts.
use Rattle.std.specs.Prelude.{◌≡◌, ℕ, Bool, List, [], All, length, nat_eq, slice_index_or, take, filter}
use Rattle.std.specs.Cmp.Lexicographic.{slice_cmp}
use Rattle.std.specs.List.{range_with_len}
use Rattle.std.specs.List.Sorted.{IsSortedBy, IsStableBy}
use Rattle.std.specs.Ordering.{is_lt, nat_cmp}
use lib.Pointwise.{pointwise}

-- the text at a place
abbrev pub text_at : List (List ℕ) → ℕ → List ℕ
text_at texts place = slice_index_or texts place []

-- the text at one place comes before that at another, character by character
abbrev pub comes_before : List (List ℕ) → ℕ → ℕ → Bool
comes_before texts place other = is_lt (slice_cmp nat_cmp (text_at texts place) (text_at texts other))

-- the places of all texts, in their order; those of one text rise
pub record IsIndex (texts : List (List ℕ)) (places : List ℕ) : Type 0 where
  pub sorted : IsSortedBy (comes_before texts) places
  pub stable : IsStableBy (comes_before texts) (range_with_len 0 (length texts)) places

-- the places whose text, cut after so many characters, is this one
abbrev pub standing_at : List (List ℕ) → ℕ → List ℕ → List ℕ → List ℕ
standing_at texts width text = filter (λ place. pointwise nat_eq text (take width (text_at texts place)))

-- the text at each of these places begins with this one
abbrev pub AllBegin : List (List ℕ) → List ℕ → List ℕ → Type 0
AllBegin texts front = All (λ place. take (length front) (text_at texts place) ≡ front)

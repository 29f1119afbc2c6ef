-- How a list of suggestions grows.
use Rattle.std.specs.Prelude.{ℕ, Bool, not, ◌&&◌, List, [], ◌∷◌, ◌++◌, nat_eq, length, nat_lt, take, if◌then◌else◌}
use Rattle.std.specs.List.{list_any, starts_with}
use Rattle.mz_base.specs.Data.{is_text}
use Rattle.mz_base.specs.declared.lattice.Pair.{Pair}
use Rattle.conversion_meaning.specs.Firsts.{firsts}
use Rattle.conversion_meaning.specs.Suggestions.{means_other}
use Rattle.conversion_meaning.specs.declared.suggestions.TheConstants.{MOST_SUGGESTIONS}

-- a pair has this value
abbrev pub has_value : List Pair → List ℕ → Bool
has_value pairs value = list_any (λ (pair : Pair). is_text pair.value value) pairs

-- there is room for a pair, and its value is new
abbrev pub takes : List Pair → Pair → Bool
takes pairs pair = nat_lt (length pairs) MOST_SUGGESTIONS && not (has_value pairs pair.value)

-- a pair goes to the end, where the list takes it
abbrev pub with_pair : List Pair → Pair → List Pair
with_pair pairs pair = if takes pairs pair then pairs ++ pair ∷ [] else pairs

-- a pair of the history, where its key begins with the base
abbrev pub with_recalled : List ℕ → List Pair → Pair → List Pair
with_recalled base pairs pair = if starts_with nat_eq pair.key base then with_pair pairs pair else pairs

-- of each value the first pair, and of these the first
abbrev pub distinct : List Pair → List Pair
distinct pairs = take MOST_SUGGESTIONS (firsts means_other pairs)

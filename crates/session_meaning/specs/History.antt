-- What learning makes of a history: docs/FORMATS.md, "Learning".
use Rattle.std.specs.Prelude.{Bool, not, ◌&&◌, List, ◌∷◌, filter, take}
use Rattle.std.specs.List.{fold}
use Rattle.mz_base.specs.Data.{is_text}
use Rattle.mz_base.specs.declared.lattice.Pair.{Pair}
use Rattle.session_meaning.specs.declared.history.TheConstants.{MOST_PAIRS}

-- the same key and the same value
abbrev pub is_pair : Pair → Pair → Bool
is_pair pair other = is_text pair.key other.key && is_text pair.value other.value

-- a pair goes first, an equal one goes, and what is past the most is dropped
abbrev pub with_learned : List Pair → Pair → List Pair
with_learned history pair = take MOST_PAIRS (pair ∷ filter (λ other. not (is_pair pair other)) history)

-- several pairs, from left to right
abbrev pub learn : List Pair → List Pair → List Pair
learn history pairs = fold with_learned history pairs

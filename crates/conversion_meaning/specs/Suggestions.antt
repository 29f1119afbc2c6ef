-- What a person may mean who has typed the front of a reading: docs/CONVERSION.md, "Suggestions".
use Rattle.std.specs.Prelude.{ℕ, Bool, not, List, [], ◌∷◌, ◌++◌, filter, map, nat_eq, take}
use Rattle.std.specs.List.{starts_with}
use Rattle.mz_base.specs.Data.{DataLists, costs_less, is_text, priced, readings, rows_with_prefix, word_at}
use Rattle.mz_base.specs.Ordered.{in_order}
use Rattle.mz_base.specs.declared.data.PricedRow.{PricedRow}
use Rattle.mz_base.specs.declared.lattice.Pair.{Pair}
use Rattle.conversion_meaning.specs.Firsts.{firsts}
use Rattle.conversion_meaning.specs.declared.suggestions.TheConstants.{MOST_SUGGESTIONS}

-- the pairs of the history whose key begins with the base, the newest first
abbrev pub recalled : List Pair → List ℕ → List Pair
recalled history base = filter (λ (pair : Pair). starts_with nat_eq pair.key base) history

-- a word row as a pair
abbrev pub word_pair : DataLists → PricedRow → Pair
word_pair d row = record { key = (word_at d row.row).reading; value = (word_at d row.row).value }

-- the words whose reading begins with the base, by cost and then by row
abbrev pub offered : DataLists → List ℕ → List Pair
offered d base = map (word_pair d) (in_order costs_less (map (priced d) (rows_with_prefix (readings d) base)))

-- the other has another value
abbrev pub means_other : Pair → Pair → Bool
means_other pair other = not (is_text pair.value other.value)

-- The suggestions for a base: of each value the first, and of these the first.
unfoldable pub suggestions : DataLists → List Pair → List ℕ → List Pair
suggestions d history [] = []
suggestions d history (c ∷ base) =
    take MOST_SUGGESTIONS (firsts means_other (recalled history (c ∷ base) ++ offered d (c ∷ base)))

-- The pairs of what the code keeps.
use Rattle.std.specs.Prelude.{ℕ, List, map}
use Rattle.mz_base.specs.declared.lattice.Pair.{Pair}
use Rattle.history.specs.declared.kept.Kept.{Kept}

abbrev pub pair_with : List ℕ → List ℕ → Pair
pair_with key value = record { key = key; value = value }

abbrev pub pair_of : Kept → Pair
pair_of kept = pair_with kept.key.items kept.value.items

-- an entry of the cache has no value: its key is the pair
abbrev pub pair_of_entry : Kept × Unit {0} → Pair
pair_of_entry entry = pair_of entry.0

abbrev pub pairs_of : List (Kept × Unit {0}) → List Pair
pairs_of entries = map pair_of_entry entries

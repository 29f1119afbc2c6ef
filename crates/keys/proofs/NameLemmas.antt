-- The first row of the program's table that is named so, and the first name of the definition.
use Rattle.std.proofs.Common.{◌≡◌, ℕ, Bool, true, false, cond, List, [], ◌∷◌, Option, Some, option_map, find, map, refl}
use Rattle.keys.specs.NameRows.{NamedKey, called, is_named}
use Rattle.keys.specs.Names.{key_among}
use Rattle.keys.specs.declared.key.Key.{Key}

of_found : (here : Bool) (row : NamedKey) (rest : Option NamedKey) (other : Option Key) → other ≡ option_map (λ (row : NamedKey). row.1) rest → cond here (Some row.1) other ≡ option_map (λ (row : NamedKey). row.1) (cond here (Some row) rest)
of_found true row rest other same = refl
of_found false row rest other same = same

-- the first row that is named so has the key
pub key_among-find : (rows : List NamedKey) (name : List ℕ) → key_among (map called rows) name ≡ option_map (λ (row : NamedKey). row.1) (find (is_named name) rows)
key_among-find [] name = refl
key_among-find (row ∷ rows) name = of_found (is_named name row) row (find (is_named name) rows) (key_among (map called rows) name) (key_among-find rows name)

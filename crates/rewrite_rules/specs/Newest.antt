-- What was chosen before, and its place: docs/CONVERSION.md, "Rules".
use Rattle.std.specs.Prelude.{ℕ, ◌&&◌, List, Option, find, position}
use Rattle.std.specs.List.{list_any}
use Rattle.std.specs.Option.{option_and_then}
use Rattle.mz_base.specs.Data.{DataLists, is_text}
use Rattle.mz_base.specs.declared.lattice.Candidate.{Candidate}
use Rattle.mz_base.specs.declared.lattice.Pair.{Pair}
use Rattle.conversion_meaning.specs.Rules.{Asked, is_value}

-- what a rule sees beside the candidates
abbrev pub asked : DataLists → List Pair → List ℕ → Asked
asked lists history key = record { lists = lists; history = history; key = key }

-- the first pair of the history that has this key and a value in the list
abbrev pub newest : List Pair → List ℕ → List Candidate → Option Pair
newest history key list =
    find (λ (pair : Pair). is_text key pair.key && list_any (is_value pair.value) list) history

-- the place of its value
abbrev pub newest_place : List Pair → List ℕ → List Candidate → Option ℕ
newest_place history key list =
    option_and_then (λ (pair : Pair). position (is_value pair.value) list) (newest history key list)

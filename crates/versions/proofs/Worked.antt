-- A worked history: a start, and two operations.
use Rattle.std.proofs.Common.{◌≡◌, ℕ, List, [], ◌∷◌, Some, refl}
use Rattle.versions.specs.declared.history.Version.{Version}
use Rattle.versions.specs.Histories.{started, installed, latest, entries_of, IsPlace}

abbrev whole : List (Version ℕ ℕ)
whole = started 10 ∷ installed 11 1 ∷ installed 12 2 ∷ []

the_start_is_the_latest : latest {T = ℕ} {E = ℕ} (started 10 ∷ []) ≡ Some 10
the_start_is_the_latest = refl

the_last_is_the_latest : latest whole ≡ Some 12
the_last_is_the_latest = refl

the_start_has_no_entry : entries_of {T = ℕ} {E = ℕ} (started 10 ∷ []) ≡ []
the_start_has_no_entry = refl

each_operation_has_its_entry : entries_of whole ≡ 1 ∷ 2 ∷ []
each_operation_has_its_entry = refl

two_operations : IsPlace 2 whole
two_operations = refl

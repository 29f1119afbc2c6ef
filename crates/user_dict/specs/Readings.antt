-- The readings of a user's rows.
use Rattle.std.specs.Prelude.{ℕ, List, map}
use Rattle.mz_base.specs.declared.user.UserRow.{UserRow}

abbrev pub user_readings : List UserRow → List (List ℕ)
user_readings rows = map (λ (row : UserRow). row.reading) rows

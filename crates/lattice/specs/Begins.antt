-- Ordinals by the begins of their entries, which rise: docs/CONVERSION.md, "Lattice".
use Rattle.std.specs.Prelude.{ℕ, ◌<◌, ◌≤◌, List, length}
use Rattle.mz_base.specs.declared.lattice.Entry.{Entry}
use Rattle.conversion_meaning.specs.Lattices.{entry}

-- the ordinal below which entries begin before this position, and from which on they do not
pub record IsBegin (es : List Entry) (position ordinal : ℕ) : Type 0 where
  pub within : ordinal ≤ length es
  pub before : (o : ℕ) → o < ordinal → (entry es o).begin < position
  pub after : (o : ℕ) → ordinal ≤ o → o < length es → position ≤ (entry es o).begin

-- The order of paths: docs/CONVERSION.md, "Order of paths".
use Rattle.std.specs.Prelude.{◌≡◌, ℕ, ◌<ℤ◌, ◌⊎◌, List, reverse}
use Rattle.std.specs.declared.cmp.Ordering.TheVariants.{Less}
use Rattle.std.specs.Cmp.Lexicographic.{slice_cmp}
use Rattle.std.specs.Ordering.{nat_cmp}
use Rattle.mz_base.specs.Data.{DataLists}
use Rattle.mz_base.specs.declared.lattice.Entry.{Entry}
use Rattle.mz_base.specs.declared.lattice.Span.{Span}
use Rattle.conversion_meaning.specs.Paths.{path_cost}

-- read from the last to the first, its ordinals are the smaller list
abbrev pub IsLowerFromLast : List ℕ → List ℕ → Type 0
IsLowerFromLast p q = slice_cmp nat_cmp (reverse p) (reverse q) ≡ Less

-- p costs less, or as much and is lower from the last
abbrev pub IsBefore : DataLists → List Entry → Span → List ℕ → List ℕ → Type 0
IsBefore d es span p q =
    (path_cost d es span p <ℤ path_cost d es span q) ⊎ ((path_cost d es span p ≡ path_cost d es span q) × IsLowerFromLast p q)

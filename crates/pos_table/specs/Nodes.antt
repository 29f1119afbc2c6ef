-- Ids and costs within their limits.
use Rattle.std.specs.Prelude.{ℕ, ◌<◌, List}
use Rattle.std.specs.List.{AllByRecursion}
use Rattle.mz_base.specs.Data.{IsNode}
use Rattle.mz_base.specs.declared.data.IdRow.{IdRow}
use Rattle.mz_base.specs.declared.data.PosRow.{PosRow}
use Rattle.mz_base.specs.declared.data.UnknownRow.{UnknownRow}

-- each has an id that there is, and a cost
abbrev pub AreNodes : ℕ → List UnknownRow → Type 0
AreNodes ids rows = AllByRecursion (λ row. IsNode ids (row.id, row.cost)) rows

abbrev pub ArePosNodes : ℕ → List PosRow → Type 0
ArePosNodes ids rows = AllByRecursion (λ row. IsNode ids (row.id, row.cost)) rows

-- each is of an id that there is
abbrev pub AreIds : ℕ → List IdRow → Type 0
AreIds ids rows = AllByRecursion (λ row. row.id < ids) rows

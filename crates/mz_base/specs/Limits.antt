-- The limits of fields and costs: docs/FORMATS.md, "Limits".
use Rattle.std.specs.Prelude.{ℕ, ℤ, Bool, ◌&&◌, List, length, nat_lt, int_le}
use Rattle.mz_base.specs.declared.data.TheConstants.{MOST_COST, LEAST_COST, MOST_FIELD_BYTES}

-- a word and a connection may have this cost
abbrev pub is_cost : ℤ → Bool
is_cost cost = int_le LEAST_COST cost && int_le cost MOST_COST

-- the field is longer than a field may be
abbrev pub is_long : List ℕ → Bool
is_long field = nat_lt MOST_FIELD_BYTES (length field)

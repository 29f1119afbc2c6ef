-- How many entries a key has, and how much a path costs: docs/CONVERSION.md, "Bounds".
use Rattle.std.specs.Prelude.{ℕ, ◌+◌, ◌*◌, ℤ, pos, neg_ℤ, ◌≤ℤ◌, unsigned_abs}
use Rattle.mz_base.specs.declared.data.TheConstants.{MOST_COST, MOST_WORDS}
use Rattle.mz_base.specs.declared.lattice.TheConstants.{MOST_KEY}
use Rattle.mz_base.specs.declared.user.TheConstants.{MOST_USER_ROWS}

-- the most entries of a key: from each position each row once, and a character and a run for each end
abbrev pub most_entries : ℕ
most_entries = MOST_KEY * (MOST_WORDS + (MOST_USER_ROWS + 2 * MOST_KEY))

-- the most that an entry or a connection costs, in size
abbrev pub most_cost : ℕ
most_cost = unsigned_abs MOST_COST

-- the most that an entry and a connection cost together
abbrev pub most_step : ℕ
most_step = 2 * most_cost

-- the most that a path over so many characters costs: a step for each, and the last connection
abbrev pub most_path : ℕ → ℕ
most_path characters = most_step * characters + most_cost

-- a number is no further from 0 than this
pub record IsWithin (most : ℕ) (cost : ℤ) : Type 0 where
  pub above : neg_ℤ (pos most) ≤ℤ cost
  pub below : cost ≤ℤ pos most

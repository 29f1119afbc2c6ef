use Rattle.std.proofs.Common.{◌≡◌, take}
use Rattle.mz_base.specs.Users.{longest_reading}
use Rattle.user_dict.proofs.by_reading.longest_of.Given as goal

-- the most characters so far
abbrev pub invariant-loop-row : goal.invariant-loop-row
invariant-loop-row l = l.longest ≡ longest_reading (take l.row-index l.rows)

use Rattle.std.proofs.Common.{◌≡◌, take}
use Rattle.data_tests.proofs.tables.all_copied.Given as goal

abbrev pub invariant-loop-row : goal.invariant-loop-row
invariant-loop-row g l = l.copy.items ≡ take l.row-index l.rows

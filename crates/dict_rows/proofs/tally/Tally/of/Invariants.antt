use Rattle.std.proofs.Common.{take}
use Rattle.dict_rows.specs.Tally.{IsTally}
use Rattle.dict_rows.proofs.tally.Tally.of.Given as goal

abbrev pub invariant-loop-row : goal.invariant-loop-row
invariant-loop-row l = IsTally l.tally (take l.row-index l.rows)

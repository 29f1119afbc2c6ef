use Rattle.std.proofs.Common.{take}
use Rattle.pos_table.specs.Groups.{AreGroups}
use Rattle.pos_table.proofs.groups.Groups.of.Given as goal

abbrev pub invariant-loop-row : goal.invariant-loop-row
invariant-loop-row l = AreGroups l.groups (take l.row-index l.rows)

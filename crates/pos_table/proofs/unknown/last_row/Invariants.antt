use Rattle.std.proofs.Common.{◌≡◌, take}
use Rattle.pos_table.specs.Classes.{has_class, same_class}
use Rattle.pos_table.proofs.LatestLemmas.{last_where}
use Rattle.pos_table.proofs.unknown.last_row.Given as goal

abbrev pub invariant-loop-row : goal.invariant-loop-row
invariant-loop-row l = l.found ≡ last_where same_class (has_class l.class) (take l.row-index l.rows)

use Rattle.std.proofs.Common.{◌≡◌, take}
use Rattle.mz_base.specs.Data.{kanji_rows}
use Rattle.pos_table.proofs.kanji.single_rows.Given as goal

abbrev pub invariant-loop-row : goal.invariant-loop-row
invariant-loop-row l = l.single.items ≡ kanji_rows (take l.row-index l.rows)

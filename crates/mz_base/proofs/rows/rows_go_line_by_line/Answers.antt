use Rattle.mz_base.proofs.LineByLine.{rows_after-ok, rows_after-err}
use Rattle.mz_base.proofs.rows.rows_go_line_by_line.Goals as goal

pub returns : goal.returns
returns g c = record { ok = rows_after-ok _; err = rows_after-err _ }

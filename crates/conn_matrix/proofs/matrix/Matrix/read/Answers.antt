use Rattle.std.proofs.Common.{rules}
use Rattle.conn_matrix.specs.Costs.{table_in}
use Rattle.conn_matrix.proofs.matrix.Matrix.read.Goals as goal

pub returns-in-Some : goal.returns-in-Some
returns-in-Some c =
    rw (← c.of-lines.ensures.lines, c.in-Some.ensures.steps) c.read_table.ensures

pub returns-in-None : goal.returns-in-None
unfolding table_in
returns-in-None c =
    rw (← c.of-lines.ensures.lines, c.in-None.ensures.steps.0) (search rules)

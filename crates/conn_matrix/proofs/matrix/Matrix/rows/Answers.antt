use Rattle.conn_matrix.proofs.ColumnLemmas.{square_columns}
use Rattle.conn_matrix.proofs.matrix.Matrix.rows.Goals as goal

pub rows_from-requires : goal.rows_from-requires
rows_from-requires c =
    rw c.deref.ensures.value (square_columns c.self.inside.size c.self.inside.kept c.in-Small.columns c.in-Small.is c.self.invariant)

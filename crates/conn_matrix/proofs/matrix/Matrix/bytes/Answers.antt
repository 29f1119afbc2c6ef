use Rattle.std.proofs.Common.{◌*◌, ◌∙◌, ap, arith}
use Rattle.conn_matrix.specs.Costs.{bytes_of}
use Rattle.conn_matrix.proofs.ColumnLemmas.{bytes_of-small, square_columns, few_costs}
use Rattle.conn_matrix.proofs.matrix.Matrix.bytes.Goals as goal

pub returns-in-Small-clause-all : goal.returns-in-Small-clause-all
returns-in-Small-clause-all c =
    let columns = c.in-Small.columns in
    ap (λ n. 2 * n) (c.len.ensures ∙ columns.ok.0)
    ∙ bytes_of-small c.self.inside.size c.self.inside.kept columns c.in-Small.is c.self.invariant
    ∙ ap bytes_of c.self.view_is

pub returns-in-Small-clause-most : goal.returns-in-Small-clause-most
returns-in-Small-clause-most c =
    let columns = c.in-Small.columns in
    let square = square_columns c.self.inside.size c.self.inside.kept columns c.in-Small.is c.self.invariant in
    let most = few_costs c.self.inside.size columns.items square in
    omega (arith, most, c.len.ensures, columns.ok.0)

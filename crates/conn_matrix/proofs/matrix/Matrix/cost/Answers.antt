use Rattle.std.proofs.Common.{◌∙◌, ◌<◌, ap, sym, pos, rules}
use Rattle.std.proofs.lemmas.Int.{to_z-of_z}
use Rattle.std.proofs.lemmas.List.{get_or_default}
use mir.Syntax.{w16, w32}
use mir.Val.{SFits}
use Rattle.conn_matrix.specs.Costs.{CostTable, cost_at}
use Rattle.conn_matrix.proofs.ColumnLemmas.{square_rows, inside_columns, small_rows, cost_at-turned}
use Rattle.conn_matrix.proofs.matrix.Matrix.cost.Goals as goal

pub index-requires : goal.index-requires
index-requires c =
    let size = c.self.inside.size in
    let columns = c.in-Small.columns in
    let same_size = ap (λ (table : CostTable). table.size) c.self.view_is in
    let square = square_rows size c.self.inside.kept columns c.in-Small.is c.self.invariant in
    let right : c.args.r < size = rw same_size c.requires.right in
    let left : c.args.l < size = rw same_size c.requires.left in
    rw columns.ok.0 (inside_columns size columns.items square c.args.r c.args.l right left)

pub returns-in-Small : goal.returns-in-Small
returns-in-Small c =
    let size = c.self.inside.size in
    let kept = c.self.inside.kept in
    let columns = c.in-Small.columns in
    let same_size = ap (λ (table : CostTable). table.size) c.self.view_is in
    let square = square_rows size kept columns c.in-Small.is c.self.invariant in
    let right : c.args.r < size = rw same_size c.requires.right in
    let left : c.args.l < size = rw same_size c.requires.left in
    let same_table = ap (λ rows. record { size = size; costs = rows }) (sym (small_rows size kept columns c.in-Small.is c.self.invariant)) ∙ c.self.view_is in
    let from : SFits w32 c.from.result = search rules in
    let index : SFits w16 c.index.result.now = search rules in
    to_z-of_z w32 c.from.result from ∙ c.from.ensures ∙ to_z-of_z w16 c.index.result.now index
    ∙ c.index.ensures
    ∙ get_or_default columns.items _ _ (pos 0) (inside_columns size columns.items square c.args.r c.args.l right left)
    ∙ cost_at-turned size columns.items square c.args.r c.args.l right left
    ∙ ap (λ table. cost_at table c.args.r c.args.l) same_table

use Rattle.std.proofs.Common.{◌∙◌, rules}
use mir.Syntax.{w16}
use Rattle.conn_matrix.proofs.ColumnLemmas.{turned_more}
use Rattle.conn_matrix.proofs.columns.columns_of.Goals as goal

pub loop-place-preserved : goal.loop-place-preserved
loop-place-preserved c =
    c.in_ok-push.ensures.items
    ∙ turned_more c.args.size c.args.costs.now c.loop-place.columns.items c.loop-place.place w16 c.small_across.result (search rules) c.small_across.ensures c.loop-place.invariant

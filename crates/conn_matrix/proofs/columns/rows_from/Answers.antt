use Rattle.std.proofs.Common.{◌∙◌, rules}
use mir.Syntax.{w32}
use Rattle.conn_matrix.proofs.ColumnLemmas.{turned_more}
use Rattle.conn_matrix.proofs.columns.rows_from.Goals as goal

pub loop-place-preserved : goal.loop-place-preserved
loop-place-preserved c =
    c.in_ok-push.ensures.items
    ∙ turned_more c.args.size c.args.columns.now c.loop-place.rows.items c.loop-place.place w32 c.wide_across.result (search rules) c.wide_across.ensures c.loop-place.invariant

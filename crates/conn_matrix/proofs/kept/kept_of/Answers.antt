use Rattle.std.proofs.Common.{◌∙◌, ap}
use Rattle.conn_matrix.specs.Columns.{turned}
use Rattle.conn_matrix.proofs.ColumnLemmas.{turned-turned}
use Rattle.conn_matrix.proofs.kept.kept_of.Goals as goal

pub returns-in_ok-columns_of-clause-rows : goal.returns-in_ok-columns_of-clause-rows
returns-in_ok-columns_of-clause-rows c =
    ap (turned c.args.size) (c.in_ok-columns_of.ensures ∙ ap (turned c.args.size) c.deref-then-are_small.ensures.value)
    ∙ turned-turned c.args.size c.args.costs.items c.requires.whole

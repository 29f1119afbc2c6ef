use Rattle.std.proofs.Common.{sym, ap, ◌∙◌, rules}
use Rattle.mz_base.specs.FileLines.{lines_left}
use Rattle.conn_matrix.proofs.CostSteps.{costs_after, costs_after-empty}
use Rattle.conn_matrix.proofs.reader.read_costs.Goals as goal

pub loop-line-preserved-then-is_empty : goal.loop-line-preserved-then-is_empty
loop-line-preserved-then-is_empty c =
    let before = c.loop-line in
    sym (costs_after-empty before.ended before.costs.items c.in-Some.line.now (lines_left c.next.new.self) (search rules))
    ∙ ap (costs_after before.ended before.costs.items) (sym c.in-Some.ensures.steps)
    ∙ before.invariant

use Rattle.std.proofs.Common.{◌≡◌}
use Rattle.mz_base.specs.FileLines.{lines_left}
use Rattle.conn_matrix.specs.Costs.{costs_in}
use Rattle.conn_matrix.proofs.CostSteps.{costs_after}
use Rattle.conn_matrix.proofs.reader.read_costs.Given as goal

-- the costs so far, and then the lines that are left, give what all lines give
abbrev pub invariant-loop-line : goal.invariant-loop-line
invariant-loop-line l =
    costs_after l.ended l.costs.items (lines_left l.line-iterator) ≡ costs_in (lines_left l.fn.lines)

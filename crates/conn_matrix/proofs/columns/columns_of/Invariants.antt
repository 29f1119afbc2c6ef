use Rattle.std.proofs.Common.{◌≡◌, map}
use Rattle.std.specs.List.{range_with_len}
use Rattle.conn_matrix.specs.Columns.{across}
use Rattle.conn_matrix.proofs.columns.columns_of.Given as goal

-- the costs so far
abbrev pub invariant-loop-place : goal.invariant-loop-place
invariant-loop-place l =
    l.columns.items ≡ map (across l.size l.costs) (range_with_len 0 l.place)

use Rattle.std.proofs.Common.{arith}
use Rattle.conversion_meaning.proofs.LatticeLemmas.{IsCursor-from_first}
use Rattle.lattice.proofs.cursor.first_from.Goals as goal

pub returns-then-entries-by_end : goal.returns-then-entries-by_end
returns-then-entries-by_end c =
    IsCursor-from_first c.args.entries.now c.args.by_end.now c.args.position c.loop-place.place c.requires.order (omega arith) c.loop-place.invariant (λ inside. c.if-entries-by_end.true)

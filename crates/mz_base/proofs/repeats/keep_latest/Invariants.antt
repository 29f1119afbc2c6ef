use Rattle.std.proofs.Common.{length}
use Rattle.mz_base.proofs.LatestSteps.{IsPartLatest}
use Rattle.mz_base.proofs.repeats.keep_latest.Given as goal

-- of the rows that are no longer left, the latest are kept, and their names are known
abbrev pub invariant-loop-row : goal.invariant-loop-row
invariant-loop-row g l =
    IsPartLatest g.T.Named.name (λ key. key.items) l.fn.rows.items l.left.items l.kept.items l.seen.keys

abbrev pub decreases-loop-row : goal.decreases-loop-row
decreases-loop-row g l = length l.left.items

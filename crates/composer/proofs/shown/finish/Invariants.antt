use Rattle.std.proofs.Common.{◌≡◌, ◌++◌, length}
use Rattle.mz_base.specs.Kana.{finish}
use Rattle.composer.proofs.shown.finish.Given as goal

-- what is shown so far, and the finished rest, are the finished run
abbrev pub invariant-loop-shown : goal.invariant-loop-shown
invariant-loop-shown g l =
    l.shown.output ++ finish (g.R.Romaji.rules l.table) l.shown.pending ≡ finish (g.R.Romaji.rules l.table) l.run

abbrev pub decreases-loop-shown : goal.decreases-loop-shown
decreases-loop-shown g l = length l.shown.pending

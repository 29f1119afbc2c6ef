use Rattle.std.proofs.Common.{◌≡◌, length}
use Rattle.mz_base.specs.Kana.{after_output, kana}
use Rattle.composer.proofs.shown.kana.Given as goal

-- what is shown so far, and the kana of the rest, are the kana of the run
abbrev pub invariant-loop-shown : goal.invariant-loop-shown
invariant-loop-shown g l =
    after_output l.shown.output (kana (g.R.Romaji.rules l.table) l.shown.pending) ≡ kana (g.R.Romaji.rules l.table) l.run

abbrev pub decreases-loop-shown : goal.decreases-loop-shown
decreases-loop-shown g l = length l.shown.pending

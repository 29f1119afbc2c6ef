use Rattle.std.proofs.Common.{◌≡◌, drop}
use Rattle.cert_text.specs.Fields.{rises}
use Rattle.cert_text.proofs.bounds.rise.Given as goal

-- the bounds that are left rise from the one before exactly where all rise from 0
abbrev pub invariant-loop-bound : goal.invariant-loop-bound
invariant-loop-bound l = rises l.last l.before (drop l.bound-index l.bounds) ≡ rises l.last 0 l.bounds

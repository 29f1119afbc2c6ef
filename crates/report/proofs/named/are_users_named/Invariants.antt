use Rattle.std.proofs.Common.{ℕ, ◌<◌, slice_index_or}
use Rattle.mz_base.specs.declared.logs.UserLog.{UserLog}
use Rattle.report.specs.Names.{AreEntriesNamed}
use Rattle.report.proofs.named.are_users_named.Given as goal

-- those so far name ones that are there
abbrev pub invariant-loop-user : goal.invariant-loop-user
invariant-loop-user l =
    (k : ℕ) (d : UserLog) → k < l.user-index → AreEntriesNamed l.logs (slice_index_or l.user-items k d)

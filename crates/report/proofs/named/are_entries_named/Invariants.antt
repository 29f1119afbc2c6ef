use Rattle.std.proofs.Common.{ℕ, ◌<◌, slice_index_or}
use Rattle.mz_base.specs.declared.logs.UserEntry.{UserEntry}
use Rattle.report.specs.Names.{IsEntryNamed}
use Rattle.report.proofs.named.are_entries_named.Given as goal

-- those so far name ones that are there
abbrev pub invariant-loop-entry : goal.invariant-loop-entry
invariant-loop-entry l =
    (k : ℕ) (d : UserEntry) → k < l.entry-index → IsEntryNamed l.logs l.user (slice_index_or l.entry-items k d)

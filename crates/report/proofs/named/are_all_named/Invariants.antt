use Rattle.std.proofs.Common.{ℕ, ◌<◌, slice_index_or}
use Rattle.mz_base.specs.declared.logs.CertEntry.{CertEntry}
use Rattle.report.specs.Names.{IsOneOf}
use Rattle.report.proofs.named.are_all_named.Given as goal

-- those so far name ones that are there
abbrev pub invariant-loop-entry : goal.invariant-loop-entry
invariant-loop-entry l =
    (k : ℕ) (d : CertEntry) → k < l.entry-index → IsOneOf l.logs.clients (slice_index_or l.entries k d).client

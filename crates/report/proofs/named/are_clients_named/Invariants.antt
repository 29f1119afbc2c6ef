use Rattle.std.proofs.Common.{ℕ, ◌<◌, slice_index_or}
use Rattle.mz_base.specs.declared.logs.ClientLog.{ClientLog}
use Rattle.report.specs.Names.{IsOneOf}
use Rattle.report.proofs.named.are_clients_named.Given as goal

-- those so far name ones that are there
abbrev pub invariant-loop-client : goal.invariant-loop-client
invariant-loop-client l =
    (k : ℕ) (d : ClientLog) → k < l.client-index → IsOneOf l.logs.users (slice_index_or l.client-items k d).user

use Rattle.std.proofs.Common.{ℕ, ◌<◌, slice_index_or}
use Rattle.mz_base.specs.declared.event.Event.{Event}
use Rattle.report.specs.Names.{IsEventNamed}
use Rattle.report.proofs.named.are_events_named.Given as goal

-- those so far name ones that are there
abbrev pub invariant-loop-event : goal.invariant-loop-event
invariant-loop-event l =
    (k : ℕ) (d : Event) → k < l.event-index → IsEventNamed l.logs (slice_index_or l.event-items k d)

use Rattle.std.proofs.Common.{◌≡◌, ◌++◌, drop}
use Rattle.std.specs.List.{flat_map}
use Rattle.std.specs.String.{string_bytes}
use Rattle.report.specs.Texts.{event_text}
use Rattle.report.proofs.events.print_schedule.Given as goal

-- what is written, and then the events that are left, are all events
abbrev pub invariant-loop-event : goal.invariant-loop-event
invariant-loop-event l =
    string_bytes l.out ++ flat_map (event_text l.logs) (drop l.event-index l.event-items) ≡ string_bytes l.initial.out ++ flat_map (event_text l.logs) l.event-items

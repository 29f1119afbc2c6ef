use Rattle.std.proofs.Common.{◌≡◌, ◌++◌, drop}
use Rattle.std.specs.List.{flat_map}
use Rattle.std.specs.String.{string_bytes}
use Rattle.schedule.specs.Texts.{event_text, schedule_text}
use Rattle.schedule.proofs.writer.print.Given as goal

-- what is written, and then the events that are left, are all events
abbrev pub invariant-loop-event : goal.invariant-loop-event
invariant-loop-event l =
    string_bytes l.out ++ flat_map (event_text l.names) (drop l.event-index l.events) ≡ schedule_text l.names l.events

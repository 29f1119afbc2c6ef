-- A schedule as far as it is read, and what it is with the lines that are left.
use Rattle.std.specs.Prelude.{ℕ, ◌++◌, Bool, true, false, List, [], Some, None, if◌then◌else◌}
use Rattle.schedule.specs.Events.{WhoIs}
use Rattle.schedule.specs.Readings.{Part, part_of, below}
use Rattle.schedule.specs.declared.reader.Draft.{Draft}
use Rattle.schedule.specs.declared.reader.Stage.{Stage}
use Rattle.schedule.specs.declared.reader.Stage.TheVariants.{Open, Ended, Bad}

abbrev pub nothing_yet : Bool → Draft
nothing_yet is_headed = record { is_headed = is_headed; stage = Open; events = [] }

abbrev pub is_open : Stage → Bool
is_open Open = true
is_open Ended = false
is_open (Bad number) = false

-- the events so far, and then the part that is left, where the schedule goes on
abbrev pub joined_at : Stage → Draft → Part → Part
joined_at Open draft part = record { events = draft.events ++ part.events; bad = part.bad }
joined_at Ended draft part = record { events = draft.events; bad = None }
joined_at (Bad number) draft part = record { events = draft.events; bad = Some number }

abbrev pub joined : Draft → Part → Part
joined draft part = joined_at draft.stage draft part

-- the part that counts, where the lines that are left begin with this number
abbrev pub whole : WhoIs → Draft → ℕ → List (List ℕ) → Part
whole who draft number lines =
    if draft.is_headed then joined draft (part_of who number lines) else below who number lines (joined draft (part_of who number lines))

-- What a file reads as: docs/FORMATS.md, "Schedules".
use Rattle.std.specs.Prelude.{ℕ, ◌+◌, ◌==◌, Bool, List, [], ◌∷◌, Option, Some, None, if◌then◌else◌, codes, length, bytes_eq}
use Rattle.mz_base.specs.declared.event.Event.{Event}
use Rattle.mz_base.specs.declared.logs.Names.{Names}
use Rattle.schedule.specs.Events.{WhoIs, event_of}
use Rattle.schedule.specs.Names.{who_is}
use Rattle.schedule.specs.declared.reader.Reading.{Reading}

-- the line above a schedule
abbrev pub is_heading : List ℕ → Bool
is_heading line = bytes_eq line (codes "schedule")

-- the line that ends a schedule
abbrev pub is_end : List ℕ → Bool
is_end line = bytes_eq line (codes "certificates")

-- numbered events, and the line that does not read
pub record Part : Type 0 where
  pub events : List (ℕ × Event)
  pub bad : Option ℕ

abbrev pub no_event : Part
no_event = record { events = []; bad = None }

abbrev pub bad_at : ℕ → Part
bad_at number = record { events = []; bad = Some number }

abbrev pub with_event : ℕ → Event → Part → Part
with_event number event part = record { events = (number, event) ∷ part.events; bad = part.bad }

-- the part that begins with the line of this number
abbrev pub after_event : ℕ → Option Event → Part → Part
after_event number None rest = bad_at number
after_event number (Some event) rest = with_event number event rest

-- The events of these lines up to the line `certificates` or to the first that does not read; an empty line is skipped.
-- The first line has this number.
abbrev pub part_of : WhoIs → ℕ → List (List ℕ) → Part
part_of who number [] = no_event
part_of who number (line ∷ lines) =
    if length line == 0 then part_of who (number + 1) lines else
    if is_end line then no_event else
    after_event number (event_of who line) (part_of who (number + 1) lines)

-- the part below the first line `schedule` among these; without one, this part
abbrev pub below : WhoIs → ℕ → List (List ℕ) → Part → Part
below who number [] part = part
below who number (line ∷ lines) part =
    if is_heading line then part_of who (number + 1) lines else below who (number + 1) lines part

-- the part that counts: below the first line `schedule`, and without one the whole
abbrev pub part_in : WhoIs → List (List ℕ) → Part
part_in who lines = below who 1 lines (part_of who 1 lines)

-- a part of a file of so many lines
abbrev pub reading_with : Part → ℕ → Reading
reading_with part count = record { events = part.events; bad = part.bad; lines = count }

-- The events of a file, each with the number of its line; the first line that does not read; and the number of lines.
abbrev pub reading_of : Names → List (List ℕ) → Reading
reading_of names lines = reading_with (part_in (who_is names) lines) (length lines)

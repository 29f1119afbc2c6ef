-- Worked rows: what some files read as, with a user u and clients c1 and c2.
use Rattle.std.specs.Prelude.{◌≡◌, ℕ, List, [], ◌∷◌, Some, None, codes}
use Rattle.mz_base.specs.Lines.{lines_of}
use Rattle.mz_base.specs.declared.event.Event.{Event}
use Rattle.mz_base.specs.declared.logs.Names.{Names}
use Rattle.schedule.specs.Readings.{reading_of}
use Rattle.schedule.specs.declared.reader.Reading.{Reading}

abbrev pub names : Names
names = record { users = codes "u" ∷ []; clients = codes "c1" ∷ codes "c2" ∷ [] }

-- these events, each with its line, and so many lines; each line of the schedule reads
abbrev pub whole : List (ℕ × Event) → ℕ → Reading
whole events lines = record { events = events; bad = None; lines = lines }

-- these events, and then this line that does not read
abbrev pub until : List (ℕ × Event) → ℕ → ℕ → Reading
until events line lines = record { events = events; bad = Some line; lines = lines }

abbrev pub ReadsAs : List ℕ → Reading → Type 0
ReadsAs text reading = reading_of names (lines_of text) ≡ reading

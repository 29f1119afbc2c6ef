-- The replay of a schedule: docs/FORMATS.md, "Schedules".
use Rattle.std.specs.Prelude.{ℕ, ◌+◌, List, [], ◌∷◌, Option, Some, None, Result, Ok, Err, if◌then◌else◌, map}
use Rattle.mz_base.specs.Answers.{◌>>=◌}
use Rattle.mz_base.specs.Lines.{lines_of}
use Rattle.mz_base.specs.declared.event.Event.{Event}
use Rattle.mz_base.specs.declared.logs.Names.{Names}
use Rattle.mz_base.specs.declared.status.Refusal.{Refusal}
use Rattle.mz_base.specs.declared.status.Refusal.TheVariants as refusal
use Rattle.run_meaning.specs.Plays.{apply, is_complete}
use Rattle.run_meaning.specs.States.{State, start}
use Rattle.run_meaning.specs.Worlds.{ClientPlan, UserPlan, World}
use Rattle.schedule.specs.Readings.{reading_of}
use Rattle.schedule.specs.declared.reader.Reading.{Reading}

-- the names of a world's users and clients
abbrev pub names_of : World → Names
names_of world =
    record { users = map (λ (user : UserPlan). user.name) world.users; clients = map (λ (client : ClientPlan). client.name) world.clients }

-- a line whose event may not come refuses the schedule
abbrev pub or_illegal : ℕ → Option State → Result State Refusal
or_illegal line None = Err (refusal.BadSchedule line)
or_illegal line (Some state) = Ok state

-- what these events lead to, each with its line; or the first that may not come
abbrev pub played_lines : World → State → List (ℕ × Event) → Result State Refusal
played_lines world state [] = Ok state
played_lines world state (found ∷ more) =
    or_illegal found.0 (apply world state found.1) >>= (λ next. played_lines world next more)

-- they stand before the first line that does not read
abbrev pub up_to : Option ℕ → State → Result State Refusal
up_to None state = Ok state
up_to (Some line) state = Err (refusal.BadSchedule line)

-- a schedule that is cut short is told at the line after the last of its file
abbrev pub or_cut_short : World → ℕ → State → Result State Refusal
or_cut_short world lines state =
    if is_complete world state then Ok state else Err (refusal.BadSchedule (lines + 1))

-- after the events, whether each line reads, and then whether each event came
abbrev pub or_unfinished : World → Reading → State → Result State Refusal
or_unfinished world reading state = up_to reading.bad state >>= or_cut_short world reading.lines

-- What a schedule leads to, where each of its lines reads, each event may come, and each event of a run came.
abbrev pub replayed : World → Reading → Result State Refusal
replayed world reading = played_lines world (start world) reading.events >>= or_unfinished world reading

-- the schedule in a file of these bytes
unfoldable pub replayed_in : World → List ℕ → Result State Refusal
replayed_in world bytes = replayed world (reading_of (names_of world) (lines_of bytes))

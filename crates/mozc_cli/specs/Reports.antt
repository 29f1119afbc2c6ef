-- What each report of a run, and of a replay, is.
use Rattle.std.specs.Prelude.{◌≡◌, ℕ, ◌≤◌, AllPairs, IsTrue, List, None, Ok, Some, map}
use Rattle.mz_base.specs.Lines.{lines_of}
use Rattle.mz_base.specs.declared.event.Event.{Event}
use Rattle.run_meaning.specs.GrowthLaws.{IsGrown}
use Rattle.run_meaning.specs.Orders.{run_order}
use Rattle.run_meaning.specs.Plays.{is_complete, play}
use Rattle.run_meaning.specs.SeenLaws.{jobs_named, seen_by}
use Rattle.run_meaning.specs.States.{State, client_at}
use Rattle.run_meaning.specs.VersionLaws.{HasTaken, last_taken}
use Rattle.run_meaning.specs.Worlds.{World}
use Rattle.schedule.specs.Readings.{reading_of}
use Rattle.schedule.specs.declared.reader.Reading.{Reading}
use Rattle.world_files.specs.Reading.{Files}
use Rattle.world_files.specs.Worlds.{replay, world}
use Rattle.world_files.specs.declared.world.Replay.{Replay}
use Rattle.mozc_cli.specs.Replays.{names_of}
use Rattle.mozc_cli.specs.Settles.{Output, output_of, replay_meant, run_meant}

-- A report of a world is the one-thread run of the complete schedule that it prints. In it each client composes with the data
-- of its last take until it commits or cancels, and neither the jobs that a client's events name nor the journals that its
-- takes saw are older than those before.
pub record IsReport (world : World) (events : List Event) (output : Output) : Type 0 where
  pub state : State
  pub played : play world events ≡ Some state
  pub complete : IsTrue (is_complete world state)
  pub printed : state.logs.events ≡ events
  pub text : output ≡ output_of state.logs
  pub one_version : (client : ℕ) → HasTaken (client_at state client) (last_taken world state client)
  pub jobs_rise : (client : ℕ) → AllPairs ◌≤◌ (jobs_named (client_at state client).log.own)
  pub journals_grow : (client : ℕ) → AllPairs IsGrown (seen_by world state client)

-- a run reports the order of a run
pub record IsRun (files : Files) (name : List ℕ) (output : Output) : Type 0 where
  pub given : World
  pub read : world files name ≡ Ok given
  pub report : IsReport given (run_order given) output

abbrev pub RunsAreReported : Type 0
RunsAreReported =
    (files : Files) (name : List ℕ) (output : Output) → run_meant files name ≡ Ok output → IsRun files name output

-- the schedule in the file of a replay
abbrev pub schedule_in : Replay → Reading
schedule_in given = reading_of (names_of given.world) (lines_of given.schedule)

abbrev pub events_in : Reading → List Event
events_in reading = map (λ (found : ℕ × Event). found.1) reading.events

-- a replay reports the events of its schedule, each line of which reads
pub record IsReplay (files : Files) (name schedule : List ℕ) (output : Output) : Type 0 where
  pub given : Replay
  pub read : replay files name schedule ≡ Ok given
  pub reads : (schedule_in given).bad ≡ None
  pub report : IsReport given.world (events_in (schedule_in given)) output

abbrev pub ReplaysAreReported : Type 0
ReplaysAreReported =
    (files : Files) (name schedule : List ℕ) (output : Output) → replay_meant files name schedule ≡ Ok output → IsReplay files name schedule output

-- What is kept of a run: what it was given, what stands, and beside it the job log by number, and the users with what their
-- journals make.
use Rattle.std.specs.Prelude.{◌≡◌, ◌<◌, ◌+◌, ℕ, true, List, Option, Some, Result, IsTrue, is_some, length, map, slice_index_or, slice_set}
use Rattle.mz_base.specs.Data.{DataLists}
use Rattle.mz_base.specs.declared.event.Event.{Event}
use Rattle.mz_base.specs.declared.logs.Logs.{Logs}
use Rattle.mz_base.specs.declared.logs.Own.{Own}
use Rattle.mz_base.specs.declared.logs.UserLog.{UserLog}
use Rattle.mz_base.specs.declared.report.Line.{Line}
use Rattle.mz_base.specs.declared.status.BadSet.{BadSet}
use Rattle.run_meaning.specs.Deeds.{Deed, Takes, may}
use Rattle.run_meaning.specs.Jobs.{is_published}
use Rattle.run_meaning.specs.Plays.{did, play}
use Rattle.run_meaning.specs.States.{Progress, State, client_at, is_open, journal_of, no_progress}
use Rattle.run_meaning.specs.Users.{data_of}
use Rattle.run_meaning.specs.Worlds.{IsWorld, World, user_of}
use Rattle.core_steps.specs.Additions.{added}
use Rattle.core_steps.specs.Boards.{IsBoard}
use Rattle.core_steps.specs.Cores.{Ran}
use Rattle.core_steps.specs.Helds.{Held}
use Rattle.core_steps.specs.Standings.{IsCaught}
use Rattle.core_steps.specs.declared.addition.Beside.{Beside}
use Rattle.core_steps.specs.declared.board.Board.{Board}
use Rattle.core_steps.specs.declared.standing.Standing.{Standing}

pub record Kept : Type 0 where
  pub world : World
  pub state : State
  pub board : Board
  pub users : List Standing

-- what is kept by its parts
abbrev pub kept_of : List (Result DataLists BadSet) → Board → List Standing → List Held → Logs → Kept
kept_of jobs board users clients logs =
    record {
      world =
          record {
            jobs = jobs;
            users = map (λ (user : Standing). user.plan) users;
            clients = map (λ (client : Held). client.plan) clients;
            certificates = is_some logs.certificates;
          };
      state = record { logs = logs; clients = map (λ (client : Held). client.progress) clients };
      board = board;
      users = users;
    }

abbrev pub ran : Kept → Ran
ran kept = record { world = kept.world; state = kept.state }

-- each user's is of its journal
pub record AreCaught (logs : List UserLog) (users : List Standing) : Type 0 where
  pub count : length users ≡ length logs
  pub each : (place : ℕ) (log : UserLog) (user : Standing) → place < length users → IsCaught (slice_index_or logs place log).entries (slice_index_or users place user)

-- The world can be run, its events led to what stands, and what is kept beside is of that.
pub record IsKept (kept : Kept) : Type 0 where
  pub world : IsWorld kept.world
  pub plans : kept.world.users ≡ map (λ (user : Standing). user.plan) kept.users
  pub played : play kept.world kept.state.logs.events ≡ Some kept.state
  pub board : IsBoard (length kept.world.jobs) kept.state.logs.jobs kept.board
  pub caught : AreCaught kept.state.logs.users kept.users

-- ---- A client at a place

-- job 1 stands, and the client of this number is the one at the place
pub record StandsAt (kept : Kept) (c place : ℕ) : Type 0 where
  pub begun : IsTrue (is_open kept.state)
  pub number : c ≡ place + 1
  pub within : place < length kept.state.clients

-- the client is there, and may do this deed
pub record MayDo (kept : Kept) (c place : ℕ) (deed : Deed) : Type 0 where
  pub stands : StandsAt kept c place
  pub may_come : may (client_at kept.state c) deed ≡ true

-- the take of a job now
abbrev pub taking_now : Kept → ℕ → ℕ → Deed
taking_now kept c job =
    let journal = journal_of kept.state (user_of kept.world c) in
    Takes (data_of kept.world (user_of kept.world c) job journal) (length journal)

-- the client may take the data of a job, which stands published
pub record IsTaking (kept : Kept) (c place job : ℕ) : Type 0 where
  pub may : MayDo kept c place (taking_now kept c job)
  pub published : IsTrue (is_published kept.state.logs.jobs job)

abbrev pub progress_at : Kept → ℕ → Progress
progress_at kept place = slice_index_or kept.state.clients place no_progress

-- ---- What is changed

abbrev pub with_logs : Kept → Logs → Kept
with_logs kept logs = record kept { state = record kept.state { logs = logs } }

abbrev pub with_progress : Kept → ℕ → Progress → Kept
with_progress kept place progress =
    record kept { state = record kept.state { clients = slice_set kept.state.clients place progress } }

abbrev pub with_users : Kept → List Standing → Kept
with_users kept users = record kept { users = users }

-- the logs after a deed of the client at a place
abbrev pub logs_after : Kept → ℕ → ℕ → Own → Option Line → Beside → Kept
logs_after kept place user own line beside =
    with_logs kept (added kept.state.logs place user own line beside)

-- the deed is done
abbrev pub after_deed : Kept → ℕ → Event → Deed → Kept
after_deed kept c e deed = record kept { state = did kept.world kept.state c deed e }

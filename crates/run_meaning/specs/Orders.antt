-- The order of a run.
use Rattle.std.specs.Prelude.{ℕ, ◌+◌, ◌-◌, List, [], ◌∷◌, ◌++◌, filter, if◌then◌else◌, length, map, max, nat_le, nat_lt, unwrap_or}
use Rattle.std.specs.List.{fold, range_with_len}
use Rattle.mz_base.specs.declared.event.Event.{Event}
use Rattle.mz_base.specs.declared.event.Event.TheVariants as event
use Rattle.keys.specs.declared.command.Command.{Command}
use Rattle.keys.specs.declared.command.Command.TheVariants as command
use Rattle.session_meaning.specs.Steps.{needs}
use Rattle.session_meaning.specs.declared.need.Need.{Need}
use Rattle.session_meaning.specs.declared.need.Need.TheVariants as need
use Rattle.run_meaning.specs.Jobs.{entry_after, newest, outcome_of}
use Rattle.run_meaning.specs.Numbers.{is_number, numbers}
use Rattle.run_meaning.specs.Plays.{apply}
use Rattle.run_meaning.specs.States.{State, progress_of, start}
use Rattle.run_meaning.specs.Worlds.{UserPlan, World, client_plan, job_at, reloads_of}

-- an event is made; the law is that each of a run is legal
unfoldable pub made : World → State → Event → State
made world state e = unwrap_or (apply world state e) state

abbrev pub all_made : World → State → List Event → State
all_made world state events = fold (made world) state events

-- ---- Jobs and reloads

-- the users that have a reload of this number
abbrev pub users_with : World → ℕ → List ℕ
users_with world reload =
    filter (λ user. is_number (reloads_of world user) reload) (numbers (length world.users))

-- these reloads, user by user
abbrev pub reload_came : World → State → ℕ → State
reload_came world state reload =
    all_made world state (map (λ user. event.Dict user reload) (users_with world reload))

-- a job, and then the reloads of its number
abbrev pub job_came : World → State → ℕ → State
job_came world state job =
    reload_came world (made world state (event.Job job (outcome_of (entry_after state.logs.jobs job (job_at world job))))) job

-- the jobs to come: in a run they come by number
abbrev pub jobs_left : World → State → List ℕ
jobs_left world state =
    range_with_len (length state.logs.jobs + 1) (length world.jobs - length state.logs.jobs)

-- the most reloads of a user
abbrev pub most_reloads : World → ℕ
most_reloads world = fold (λ most (user : UserPlan). max most (length user.reloads)) 0 world.users

-- the reloads whose number no job has
abbrev pub reloads_left : World → List ℕ
reloads_left world = range_with_len (length world.jobs + 1) (most_reloads world - length world.jobs)

-- the log is closed, if it is not yet
abbrev pub then_closed : World → State → State
then_closed world state = if state.logs.closed then state else made world state event.Close

-- ---- A client

-- the next job comes while the newest published one is below the wanted one
abbrev pub unless_reached : World → ℕ → State → ℕ → State
unless_reached world wanted state job =
    if nat_lt (newest state.logs.jobs) wanted then job_came world state job else state

abbrev pub waited : World → State → ℕ → State
waited world state wanted = fold (unless_reached world wanted) state (jobs_left world state)

-- a wait ends with the newest published job, or with none
abbrev pub answered : World → ℕ → ℕ → State → State
answered world client wanted state =
    if nat_le wanted (newest state.logs.jobs) then made world state (event.Await client (newest state.logs.jobs)) else
    made world (then_closed world state) (event.NotYet client)

-- what a command needs before its step; a take is of the newest published job
abbrev pub before_step : Need → ℕ → ℕ → List Event
before_step need.Nothing client newest = []
before_step need.Learn client newest = event.Learn client ∷ []
before_step need.Take client newest = event.Take client newest ∷ []
before_step need.LearnThenTake client newest = event.Learn client ∷ event.Take client newest ∷ []

abbrev pub obeyed : World → ℕ → State → Command → State
obeyed world client state (command.Await wanted) = answered world client wanted (waited world state wanted)
obeyed world client state c =
    all_made world state (before_step (needs (progress_of state client).session c) client (newest state.logs.jobs) ++ event.Step client ∷ [])

-- all commands of a client, and its end
abbrev pub served : World → State → ℕ → State
served world state client =
    made world (fold (obeyed world client) state (client_plan world client).commands) (event.End client)

-- ---- The whole run

-- job 1 with its reloads, then the clients
abbrev pub all_served : World → State
all_served world = fold (served world) (job_came world (start world) 1) (numbers (length world.clients))

-- the jobs that are left, each with its reloads
abbrev pub all_jobs : World → State → State
all_jobs world state = fold (job_came world) state (jobs_left world state)

-- then the reloads that are left, and the close of the log
unfoldable pub run : World → State
run world = then_closed world (fold (reload_came world) (all_jobs world (all_served world)) (reloads_left world))

abbrev pub run_order : World → List Event
run_order world = (run world).logs.events

-- What an event makes, where it is legal: docs/FORMATS.md, "Events".
use Rattle.std.specs.Prelude.{ℕ, ◌==◌, ◌&&◌, ◌||◌, Bool, true, false, not, IsTrue, List, [], ◌∷◌, ◌++◌, Option, Some, None, IsSome, IsSomeAnd, filter, if◌then◌else◌, length, nat_le, nat_lt, option_and_then, option_map}
use Rattle.std.specs.List.{list_all}
use Rattle.mz_base.specs.declared.event.Event.{Event}
use Rattle.mz_base.specs.declared.event.Event.TheVariants as event
use Rattle.mz_base.specs.declared.event.Outcome.{Outcome}
use Rattle.mz_base.specs.declared.event.Outcome.TheVariants as outcome
use Rattle.mz_base.specs.declared.logs.CertEntry.{CertEntry}
use Rattle.mz_base.specs.declared.logs.JobEntry.{JobEntry}
use Rattle.mz_base.specs.declared.logs.UserEntry.{UserEntry}
use Rattle.mz_base.specs.declared.logs.UserEntry.TheVariants as entry
use Rattle.mz_base.specs.declared.logs.UserLog.{UserLog}
use Rattle.run_meaning.specs.Deeds.{Deed, Awaits, Ends, FindsNone, Learns, Steps, Takes, certificate_of, done, entries_of, is_empty, may}
use Rattle.run_meaning.specs.Jobs.{entry_after, is_logged, is_outcome, is_published, newest, outcome_of}
use Rattle.run_meaning.specs.Numbers.{at_number, is_number, numbers, with_number}
use Rattle.run_meaning.specs.States.{Progress, State, client_at, is_open, journal_of, no_user_log, start}
use Rattle.run_meaning.specs.Users.{data_of, is_entered}
use Rattle.run_meaning.specs.Worlds.{World, job_at, reloads_of, user_of}

-- the state, where the event is legal
unfoldable pub provided : Bool → State → Option State
provided legal state = if legal then Some state else None

-- ---- What is added

abbrev pub with_event : State → Event → State
with_event state e = record state { logs = record state.logs { events = state.logs.events ++ e ∷ [] } }

abbrev pub with_job : State → JobEntry → State
with_job state came = record state { logs = record state.logs { jobs = state.logs.jobs ++ came ∷ [] } }

abbrev pub closed : State → State
closed state = record state { logs = record state.logs { closed = true } }

-- further entries of a user's journal
abbrev pub with_entries : List UserLog → ℕ → List UserEntry → List UserLog
with_entries users user [] = users
with_entries users user (first ∷ more) =
    let log = at_number no_user_log users user in
    with_number users user (record log { entries = log.entries ++ first ∷ more })

abbrev pub with_reload : State → ℕ → ℕ → State
with_reload state user reload =
    record state { logs = record state.logs { users = with_entries state.logs.users user (entry.Dict reload ∷ []) } }

-- The certificates stand by client, and those of one client in the order of its commands: a new one goes after those of its
-- client and of all before it.
abbrev pub certificates_with : List CertEntry → CertEntry → List CertEntry
certificates_with entries made =
    filter (λ (kept : CertEntry). nat_le kept.client made.client) entries ++ made ∷ filter (λ (kept : CertEntry). nat_lt made.client kept.client) entries

abbrev pub certified : Option (List CertEntry) → Option CertEntry → Option (List CertEntry)
certified kept None = kept
certified kept (Some made) = option_map (λ entries. certificates_with entries made) kept

-- ---- Deeds of clients

-- a deed of a client is done
unfoldable pub did : World → State → ℕ → Deed → Event → State
did world state c deed e =
    let client = client_at state c in
    let after = done client e deed in
    record {
      logs =
          record state.logs {
            clients = with_number state.logs.clients c after.log;
            users = with_entries state.logs.users (user_of world c) (entries_of client deed);
            events = state.logs.events ++ e ∷ [];
            certificates = certified state.logs.certificates (certificate_of client deed);
          };
      clients = with_number state.clients c after.progress;
    }

-- It may be done where job 1 stands, what it is given is there, the client is, and the deed may come.
unfoldable pub by_client : World → State → Bool → ℕ → Deed → Event → Option State
by_client world state given c deed e =
    provided (is_open state && (given && (is_number state.clients c && may (client_at state c) deed))) (did world state c deed e)

-- ---- One event

-- job 1, published, is the first event
abbrev pub is_first : ℕ → Outcome → Bool
is_first job outcome.Published = job == 1
is_first job _ = false

-- Where job 1 stands published, or comes first: a job is legal where it is one that did not come, with the outcome that is
-- its own after this log.
abbrev pub is_job_legal : World → State → ℕ → Outcome → Bool
is_job_legal world state job outcome =
    (is_open state || is_first job outcome) && (is_number world.jobs job && (not (is_logged state.logs.jobs job) && is_outcome outcome (outcome_of (entry_after state.logs.jobs job (job_at world job)))))

-- the log closes once, when all jobs came
abbrev pub is_close_legal : World → State → Bool
is_close_legal world state =
    is_open state && (list_all (is_logged state.logs.jobs) (numbers (length world.jobs)) && not state.logs.closed)

-- a reload of the user comes once
abbrev pub is_reload_legal : World → State → ℕ → ℕ → Bool
is_reload_legal world state user reload =
    is_open state && (is_number world.users user && (is_number (reloads_of world user) reload && not (is_entered (journal_of state user) reload)))

-- the state after an event, where it is legal
unfoldable pub apply : World → State → Event → Option State
apply world state (event.Job job outcome) =
    provided (is_job_legal world state job outcome) (with_event (with_job state (entry_after state.logs.jobs job (job_at world job))) (event.Job job outcome))
apply world state event.Close = provided (is_close_legal world state) (with_event (closed state) event.Close)
apply world state (event.Dict user reload) =
    provided (is_reload_legal world state user reload) (with_event (with_reload state user reload) (event.Dict user reload))
apply world state (event.Learn c) = by_client world state true c Learns (event.Learn c)
apply world state (event.Take c job) =
    let journal = journal_of state (user_of world c) in
    by_client world state (is_published state.logs.jobs job) c (Takes (data_of world (user_of world c) job journal) (length journal)) (event.Take c job)
apply world state (event.Step c) = by_client world state true c Steps (event.Step c)
apply world state (event.Await c job) =
    by_client world state (is_published state.logs.jobs job) c (Awaits job) (event.Await c job)
apply world state (event.NotYet c) =
    by_client world state state.logs.closed c (FindsNone (newest state.logs.jobs)) (event.NotYet c)
apply world state (event.End c) = by_client world state true c Ends (event.End c)

-- ---- Lists of events

-- the state after events, where each is legal after those before it
abbrev pub play_from : World → State → List Event → Option State
play_from world state [] = Some state
play_from world state (e ∷ events) = option_and_then (λ next. play_from world next events) (apply world state e)

abbrev pub play : World → List Event → Option State
play world events = play_from world (start world) events

abbrev pub IsLegal : World → List Event → Type 0
IsLegal world events = IsSome (play world events)

-- all reloads of a user came
abbrev pub are_entered : World → State → ℕ → Bool
are_entered world state user =
    list_all (is_entered (journal_of state user)) (numbers (length (reloads_of world user)))

abbrev pub has_ended : Progress → Bool
has_ended p = is_empty p.rest && p.ended

-- each job, reload and command came, the log is closed, and each client ended
abbrev pub is_complete : World → State → Bool
is_complete world state =
    list_all (is_logged state.logs.jobs) (numbers (length world.jobs)) && (list_all (are_entered world state) (numbers (length world.users)) && (state.logs.closed && list_all has_ended state.clients))

abbrev pub IsComplete : World → List Event → Type 0
IsComplete world events = IsSomeAnd (play world events) (λ state. IsTrue (is_complete world state))

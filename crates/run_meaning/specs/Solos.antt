-- One client alone: by its own events, and by its commands.
use Rattle.std.specs.Prelude.{ℕ, ◌+◌, ◌==◌, Bool, true, false, List, [], ◌∷◌, ◌++◌, Option, Some, None, filter_map, if◌then◌else◌, length, option_and_then, option_to_list, take}
use Rattle.mz_base.specs.declared.event.Event.{Event}
use Rattle.mz_base.specs.declared.event.Event.TheVariants as event
use Rattle.mz_base.specs.declared.logs.CertEntry.{CertEntry}
use Rattle.mz_base.specs.declared.logs.JobEntry.{JobEntry}
use Rattle.mz_base.specs.declared.logs.Own.{Own}
use Rattle.mz_base.specs.declared.logs.UserEntry.{UserEntry}
use Rattle.mz_base.specs.declared.report.Line.{Line}
use Rattle.keys.specs.declared.command.Command.{Command}
use Rattle.keys.specs.declared.command.Command.TheVariants as command
use Rattle.session_meaning.specs.Laws.{is_taken}
use Rattle.session_meaning.specs.Stages.{Pinned, Session, opening}
use Rattle.session_meaning.specs.Steps.{needs, step}
use Rattle.run_meaning.specs.Deeds.{Deed, Awaits, Ends, FindsNone, Learns, Steps, Takes, awaited_line, certificate_after, done, may, not_yet_line}
use Rattle.run_meaning.specs.Jobs.{is_published, newest}
use Rattle.run_meaning.specs.States.{Client}
use Rattle.run_meaning.specs.Users.{data_of}
use Rattle.run_meaning.specs.Worlds.{World}

-- ---- By its own events

-- what a client's own events are read with: its user, the job log and whether it is closed, and the user's journal
pub record Around : Type 0 where
  pub user : ℕ
  pub jobs : List JobEntry
  pub closed : Bool
  pub journal : List UserEntry

abbrev pub deed_if : Bool → Deed → Option Deed
deed_if holds deed = if holds then Some deed else None

-- The deed of an own event. The job of a take or an await stands published, and the log of a not-yet is closed. A take has the
-- data that the noted part of the journal makes. Other events are none of a client's.
unfoldable pub deed_of : World → Around → Event → ℕ → Option Deed
deed_of world around (event.Learn c) entries = Some Learns
deed_of world around (event.Take c job) entries =
    deed_if (is_published around.jobs job) (Takes (data_of world around.user job (take entries around.journal)) entries)
deed_of world around (event.Step c) entries = Some Steps
deed_of world around (event.Await c job) entries = deed_if (is_published around.jobs job) (Awaits job)
deed_of world around (event.NotYet c) entries = deed_if around.closed (FindsNone (newest around.jobs))
deed_of world around (event.End c) entries = Some Ends
deed_of world around _ entries = None

-- the client of an event; 0 where it is none of a client's
abbrev pub client_of : Event → ℕ
client_of (event.Learn c) = c
client_of (event.Take c job) = c
client_of (event.Step c) = c
client_of (event.Await c job) = c
client_of (event.NotYet c) = c
client_of (event.End c) = c
client_of _ = 0

-- the client after a deed that may come
abbrev pub after_deed : Client → Event → Deed → Option Client
after_deed client e deed = if may client deed then Some (done client e deed) else None

-- the client after an event of its own
unfoldable pub alone_after : World → Around → Client → Own → Option Client
alone_after world around client own =
    if client_of own.event == client.number
    then option_and_then (after_deed client own.event) (deed_of world around own.event own.prefix)
    else None

-- the client after its own events
abbrev pub alone : World → Around → Client → List Own → Option Client
alone world around client [] = Some client
alone world around client (own ∷ rest) =
    option_and_then (λ next. alone world around next rest) (alone_after world around client own)

-- ---- By its commands

-- what a client is told: the data of a take; the job of a wait; the newest job, where a wait finds none
pub data Answer : Type 0 where
  Data : Pinned → Answer
  Awaited : ℕ → Answer
  NotYet : ℕ → Answer

-- what some commands lead to, and the answers that are left
pub record Solo : Type 0 where
  pub session : Session
  pub lines : List Line
  pub certificates : List CertEntry
  pub answers : List Answer

-- a line more, and what the command's conversion certifies
abbrev pub with_line : Solo → Session → Line → List CertEntry → List Answer → Solo
with_line so_far session line made answers =
    record { session = session; lines = so_far.lines ++ line ∷ []; certificates = so_far.certificates ++ made; answers = answers }

abbrev pub wait_ends : Solo → List Answer → Option Solo
wait_ends so_far (Awaited job ∷ answers) = Some (with_line so_far so_far.session (awaited_line so_far.session job) [] answers)
wait_ends so_far (NotYet newest ∷ answers) =
    Some (with_line so_far so_far.session (not_yet_line so_far.session newest) [] answers)
wait_ends so_far _ = None

abbrev pub steps_with : ℕ → Solo → Command → Option Pinned → List Answer → Solo
steps_with client so_far c taken answers =
    let after = step so_far.session c taken in
    with_line so_far after.session after.line (option_to_list (certificate_after client (length so_far.lines + 1) after.session)) answers

-- a command that takes data has an answer with these
abbrev pub steps_by : ℕ → Solo → Command → Bool → List Answer → Option Solo
steps_by client so_far c false answers = Some (steps_with client so_far c None answers)
steps_by client so_far c true (Data pinned ∷ answers) = Some (steps_with client so_far c (Some pinned) answers)
steps_by client so_far c true _ = None

-- one command; none where its answer is wanting or of another kind
unfoldable pub solo_command : ℕ → Solo → Command → Option Solo
solo_command client so_far (command.Await wanted) = wait_ends so_far so_far.answers
solo_command client so_far c = steps_by client so_far c (is_taken (needs so_far.session c)) so_far.answers

abbrev pub solo_from : ℕ → Solo → List Command → Option Solo
solo_from client so_far [] = Some so_far
solo_from client so_far (c ∷ rest) =
    option_and_then (λ next. solo_from client next rest) (solo_command client so_far c)

-- The lines and certificates of commands by the answers that they get in order; none where one is wanting or of another kind.
-- The client's number stands in its certificates, and nowhere else.
abbrev pub solo : ℕ → List Command → List Answer → Option Solo
solo client commands answers =
    solo_from client (record { session = opening; lines = []; certificates = []; answers = answers }) commands

-- ---- The answers that own events name

abbrev pub answer_in : Deed → Option Answer
answer_in (Takes pinned entries) = Some (Data pinned)
answer_in (Awaits job) = Some (Awaited job)
answer_in (FindsNone newest) = Some (NotYet newest)
answer_in _ = None

abbrev pub answer_of : World → Around → Own → Option Answer
answer_of world around own = option_and_then answer_in (deed_of world around own.event own.prefix)

abbrev pub answers_of : World → Around → List Own → List Answer
answers_of world around own = filter_map (answer_of world around) own

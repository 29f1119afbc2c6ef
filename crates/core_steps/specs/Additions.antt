-- What a deed of a client adds to the logs.
use Rattle.std.specs.Prelude.{ℕ, ◌+◌, List, [], ◌∷◌, ◌++◌, Option, Some, None, option_to_list, slice_index_or, slice_set}
use Rattle.mz_base.specs.declared.event.Event.{Event}
use Rattle.mz_base.specs.declared.logs.CertEntry.{CertEntry}
use Rattle.mz_base.specs.declared.logs.ClientLog.{ClientLog}
use Rattle.mz_base.specs.declared.logs.Logs.{Logs}
use Rattle.mz_base.specs.declared.logs.Own.{Own}
use Rattle.mz_base.specs.declared.logs.UserEntry.{UserEntry}
use Rattle.mz_base.specs.declared.logs.UserEntry.TheVariants as entry
use Rattle.mz_base.specs.declared.logs.UserLog.{UserLog}
use Rattle.mz_base.specs.declared.report.Line.{Line}
use Rattle.keys.specs.declared.command.Command.{Command}
use Rattle.session_meaning.specs.Steps.{step}
use Rattle.run_meaning.specs.Deeds.{Deed, Awaits, Ends, FindsNone, Learns, Steps, Takes, awaited_line, certified_by, entries_seen, not_yet_line, pairs_of}
use Rattle.run_meaning.specs.Plays.{certified}
use Rattle.run_meaning.specs.States.{Client, Progress, no_client_log, no_user_log}
use Rattle.core_steps.specs.declared.addition.Beside.{Beside}
use Rattle.core_steps.specs.declared.addition.Beside.TheVariants as beside

-- a client's log with an own event and a line, where there is one
abbrev pub noted_in : ClientLog → Own → Option Line → ClientLog
noted_in log own line = record log { lines = log.lines ++ option_to_list line; own = log.own ++ own ∷ [] }

-- the logs of clients, where that of the client at a place has these more
abbrev pub noted_at : List ClientLog → ℕ → Own → Option Line → List ClientLog
noted_at logs place own line = slice_set logs place (noted_in (slice_index_or logs place no_client_log) own line)

-- the journals, where that of the user at a place has an entry more
abbrev pub entered_at : List UserLog → ℕ → UserEntry → List UserLog
entered_at logs place entry =
    let log = slice_index_or logs place no_user_log in
    slice_set logs place (record log { entries = log.entries ++ entry ∷ [] })

-- what is added beside the client's own log, with the place of its user
abbrev pub with_beside : Logs → ℕ → Beside → Logs
with_beside logs user beside.Nothing = logs
with_beside logs user (beside.Entry entry) = record logs { users = entered_at logs.users user entry }
with_beside logs user (beside.Certificate made) = record logs { certificates = certified logs.certificates (Some made) }

-- the logs after a deed of the client at a place
abbrev pub added : Logs → ℕ → ℕ → Own → Option Line → Beside → Logs
added logs client user own line beside =
    with_beside (record logs { clients = noted_at logs.clients client own line; events = logs.events ++ own.event ∷ [] }) user beside

-- ---- What each deed adds

-- the event of a deed, with the entries of the journal that it saw
abbrev pub own_of : Event → Deed → Own
own_of event deed = record { event = event; prefix = entries_seen deed }

-- the line of the next command
abbrev pub line_of_step : Progress → List Command → Option Line
line_of_step p [] = None
line_of_step p (c ∷ rest) = Some (step p.session c p.taken).line

-- the line of a deed, where it has one
abbrev pub line_of : Client → Deed → Option Line
line_of client Learns = None
line_of client (Takes pinned entries) = None
line_of client (Awaits job) = Some (awaited_line client.progress.session job)
line_of client (FindsNone newest) = Some (not_yet_line client.progress.session newest)
line_of client Steps = line_of_step client.progress client.progress.rest
line_of client Ends = None

abbrev pub beside_certificate : Option CertEntry → Beside
beside_certificate None = beside.Nothing
beside_certificate (Some made) = beside.Certificate made

-- what a deed adds beside the client's own log
abbrev pub beside_of : Client → Deed → Beside
beside_of client Learns =
    beside.Entry (entry.Learn client.number (client.progress.learns + 1) (pairs_of client.progress.session client.progress.rest))
beside_of client Steps = beside_certificate (certified_by client client.progress.rest)
beside_of client Ends = beside.Entry (entry.End client.number client.progress.learns)
beside_of client _ = beside.Nothing

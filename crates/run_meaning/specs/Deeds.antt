-- What a client does, and when it may: docs/FORMATS.md, "Events". It looks at this one client alone.
use Rattle.std.specs.Prelude.{ℕ, ◌+◌, ◌&&◌, Bool, true, false, not, List, [], ◌∷◌, ◌++◌, Option, Some, None, drop, is_none, length, nat_le, nat_lt, option_map}
use Rattle.std.specs.Fmt.{decimal}
use Rattle.std.specs.Option.{option_map_or}
use Rattle.mz_base.specs.declared.conversion.Conversion.{Conversion}
use Rattle.mz_base.specs.declared.event.Event.{Event}
use Rattle.mz_base.specs.declared.lattice.Pair.{Pair}
use Rattle.mz_base.specs.declared.logs.CertEntry.{CertEntry}
use Rattle.mz_base.specs.declared.logs.UserEntry.{UserEntry}
use Rattle.mz_base.specs.declared.logs.UserEntry.TheVariants as entry
use Rattle.mz_base.specs.declared.report.Line.{Line}
use Rattle.mz_base.specs.declared.report.Word.TheVariants as word
use Rattle.keys.specs.declared.command.Command.{Command}
use Rattle.keys.specs.declared.command.Command.TheVariants as command
use Rattle.session_meaning.specs.Laws.{is_learned, is_taken}
use Rattle.session_meaning.specs.Lines.{line_with}
use Rattle.session_meaning.specs.Stages.{Pinned, Session, version_of}
use Rattle.session_meaning.specs.Steps.{converted_of, learned, needs, step}
use Rattle.session_meaning.specs.declared.need.Need.{Need}
use Rattle.session_meaning.specs.declared.need.Need.TheVariants as need
use Rattle.run_meaning.specs.States.{Client, Progress}

-- A deed, with what it is given: what is committed is learned; these data are taken, with so many entries of the journal; this
-- job is seen by a wait; a wait finds no job, and this is the newest; the next command is carried out; the client ends.
pub data Deed : Type 0 where
  Learns : Deed
  Takes : Pinned → ℕ → Deed
  Awaits : ℕ → Deed
  FindsNone : ℕ → Deed
  Steps : Deed
  Ends : Deed

-- ---- The next command

abbrev pub is_empty : List Command → Bool
is_empty [] = true
is_empty (c ∷ rest) = false

-- the job that it waits for, where it is a wait
abbrev pub awaited_by : List Command → Option ℕ
awaited_by (command.Await job ∷ rest) = Some job
awaited_by _ = None

abbrev pub need_of : Session → List Command → Need
need_of session [] = need.Nothing
need_of session (c ∷ rest) = needs session c

abbrev pub pairs_of : Session → List Command → List Pair
pairs_of session [] = []
pairs_of session (c ∷ rest) = learned session c

-- it needs a learn that has not come
abbrev pub lacks_learn : Progress → Bool
lacks_learn p = is_learned (need_of p.session p.rest) && not p.learned

-- it needs a take that has not come
abbrev pub lacks_take : Progress → Bool
lacks_take p = is_taken (need_of p.session p.rest) && is_none p.taken

-- ---- When a deed may come

unfoldable pub may : Client → Deed → Bool
may client Learns = lacks_learn client.progress
may client (Takes pinned entries) =
    lacks_take client.progress && (not (lacks_learn client.progress) && nat_le client.progress.seen pinned.version)
may client (Awaits job) =
    option_map_or (λ wanted. nat_le wanted job && nat_le client.progress.seen job) (awaited_by client.progress.rest) false
may client (FindsNone newest) = option_map_or (λ wanted. nat_lt newest wanted) (awaited_by client.progress.rest) false
may client Steps =
    not (is_empty client.progress.rest) && (is_none (awaited_by client.progress.rest) && (not (lacks_learn client.progress) && not (lacks_take client.progress)))
may client Ends = is_empty client.progress.rest && not client.progress.ended

-- ---- What it makes of the client

-- the lines of a wait
abbrev pub awaited_line : Session → ℕ → Line
awaited_line session job = line_with word.Awaited session.stage (decimal job ∷ [])

abbrev pub not_yet_line : Session → ℕ → Line
not_yet_line session newest = line_with word.NotYet session.stage (decimal newest ∷ [])

-- the next command is over, with this session and this line
abbrev pub over : Client → Session → Line → Client
over client session line =
    record client {
      progress = record client.progress { session = session; rest = drop 1 client.progress.rest; learned = false; taken = None };
      log = record client.log { lines = client.log.lines ++ line ∷ [] };
    }

-- the client has seen a job
abbrev pub saw : Client → ℕ → Client
saw client job = record client { progress = record client.progress { seen = job } }

-- the certificate of the conversion that a command made, with the number of the command
abbrev pub certificate_entry : ℕ → ℕ → Session → List ℕ × Conversion → CertEntry
certificate_entry client number session made =
    record { client = client; number = number; version = version_of session.stage; key = made.0; cert = made.1.certificate }

abbrev pub certificate_after : ℕ → ℕ → Session → Option CertEntry
certificate_after client number session = option_map (certificate_entry client number session) (converted_of session)

-- the certificate that the next command makes
abbrev pub certified_by : Client → List Command → Option CertEntry
certified_by client [] = None
certified_by client (c ∷ rest) =
    certificate_after client.number (length client.log.lines + 1) (step client.progress.session c client.progress.taken).session

abbrev pub with_certificate : Client → Option CertEntry → Client
with_certificate client None = client
with_certificate client (Some made) =
    record client { certificates = option_map (λ kept. kept ++ made ∷ []) client.certificates }

abbrev pub stepped : Client → List Command → Client
stepped client [] = client
stepped client (c ∷ rest) =
    let made = step client.progress.session c client.progress.taken in
    with_certificate (over client made.session made.line) (certified_by client client.progress.rest)

abbrev pub does : Client → Deed → Client
does client Learns =
    record client { progress = record client.progress { learned = true; learns = client.progress.learns + 1 } }
does client (Takes pinned entries) =
    record client { progress = record client.progress { taken = Some pinned; seen = pinned.version } }
does client (Awaits job) = saw (over client client.progress.session (awaited_line client.progress.session job)) job
does client (FindsNone newest) = over client client.progress.session (not_yet_line client.progress.session newest)
does client Steps = stepped client client.progress.rest
does client Ends = record client { progress = record client.progress { ended = true } }

-- how many entries of the journal it saw
abbrev pub entries_seen : Deed → ℕ
entries_seen (Takes pinned entries) = entries
entries_seen _ = 0

abbrev pub noted : Client → Event → ℕ → Client
noted client event entries =
    record client { log = record client.log { own = client.log.own ++ record { event = event; prefix = entries } ∷ [] } }

-- the deed is done, and its event is noted
unfoldable pub done : Client → Event → Deed → Client
done client event deed = noted (does client deed) event (entries_seen deed)

-- ---- What it adds to the logs

-- to the journal of the user: a learn with its number among the client's and its pairs, and the end with their number
abbrev pub entries_of : Client → Deed → List UserEntry
entries_of client Learns =
    entry.Learn client.number (client.progress.learns + 1) (pairs_of client.progress.session client.progress.rest) ∷ []
entries_of client Ends = entry.End client.number client.progress.learns ∷ []
entries_of client _ = []

-- to the certificates
abbrev pub certificate_of : Client → Deed → Option CertEntry
certificate_of client Steps = certified_by client client.progress.rest
certificate_of client _ = None

-- The text of a report: docs/FORMATS.md, "Report".
use Rattle.std.specs.Prelude.{ℕ, ◌+◌, ◌-◌, List, [], ◌∷◌, ◌++◌, Option, Some, None, codes, length, slice_index_or, encode_utf8_all}
use Rattle.std.specs.List.{flat_map}
use Rattle.std.specs.Fmt.{decimal}
use Rattle.cert_text.specs.Texts.{certificate_text}
use Rattle.mz_base.specs.Faults.{kind_fields}
use Rattle.mz_base.specs.Reports.{word_text, mode_text, outcome_text}
use Rattle.mz_base.specs.declared.event.Event.{Event}
use Rattle.mz_base.specs.declared.event.Event.TheVariants as event
use Rattle.mz_base.specs.declared.fault.FaultKind.{FaultKind}
use Rattle.mz_base.specs.declared.fault.FaultKind.TheVariants as kind
use Rattle.mz_base.specs.declared.lattice.Pair.{Pair}
use Rattle.mz_base.specs.declared.logs.CertEntry.{CertEntry}
use Rattle.mz_base.specs.declared.logs.ClientLog.{ClientLog}
use Rattle.mz_base.specs.declared.logs.DictNote.{DictNote}
use Rattle.mz_base.specs.declared.logs.DictNote.TheVariants as note
use Rattle.mz_base.specs.declared.logs.JobEntry.{JobEntry}
use Rattle.mz_base.specs.declared.logs.JobEntry.TheVariants as job
use Rattle.mz_base.specs.declared.logs.Logs.{Logs}
use Rattle.mz_base.specs.declared.logs.UserEntry.{UserEntry}
use Rattle.mz_base.specs.declared.logs.UserEntry.TheVariants as entry
use Rattle.mz_base.specs.declared.logs.UserLog.{UserLog}
use Rattle.mz_base.specs.declared.report.Line.{Line}
use Rattle.report.specs.Names.{client_name, user_name}

-- a field after a tab
abbrev pub after_tab : List ℕ → List ℕ
after_tab field = codes "\t" ++ field

-- a text after a tab
abbrev pub tabbed : List ℕ → List ℕ
tabbed text = codes "\t" ++ encode_utf8_all text

-- the line of a command, with its number
abbrev pub line_text : ℕ → Line → List ℕ
line_text number line =
    decimal number ++ (codes "\t" ++ (word_text line.word ++ (codes "\t" ++ (mode_text line.mode ++ (codes "\t" ++ (decimal line.version ++ (codes "\t" ++ (encode_utf8_all line.result ++ (flat_map tabbed line.rest ++ codes "\n")))))))))

-- lines, numbered from here
abbrev pub lines_text : ℕ → List Line → List ℕ
lines_text number [] = []
lines_text number (line ∷ lines) = line_text number line ++ lines_text (number + 1) lines

-- a client, its user, and its commands
abbrev pub client_text : Logs → ClientLog → List ℕ
client_text logs client =
    codes "client\t" ++ (encode_utf8_all client.name ++ (codes "\t" ++ (encode_utf8_all (user_name logs client.user) ++ (codes "\n" ++ lines_text 1 client.lines))))

-- fields, each after a tab
abbrev pub fields_text : List (List ℕ) → List ℕ
fields_text fields = flat_map after_tab fields

-- the fields of a fault
abbrev pub fault_text : FaultKind → List ℕ
fault_text fault = fields_text (kind_fields fault)

-- what became of a job: a refused one has its file and its fault, a skipped one the higher job
abbrev pub job_text : JobEntry → List ℕ
job_text (job.Published number) = codes "job\t" ++ (decimal number ++ codes "\tpublished\n")
job_text (job.Refused number path fault) =
    codes "job\t" ++ (decimal number ++ (codes "\trefused\t" ++ (encode_utf8_all path ++ (fault_text fault.kind ++ codes "\n"))))
job_text (job.Skipped number by) = codes "job\t" ++ (decimal number ++ (codes "\tskipped\t" ++ (decimal by ++ codes "\n")))

abbrev pub jobs_section : List JobEntry → List ℕ
jobs_section jobs = codes "jobs\n" ++ flat_map job_text jobs

-- pairs, the key before the value
abbrev pub pair_text : Pair → List ℕ
pair_text pair = codes "\t" ++ (encode_utf8_all pair.key ++ (codes "\t" ++ encode_utf8_all pair.value))

abbrev pub pairs_text : List Pair → List ℕ
pairs_text pairs = flat_map pair_text pairs

-- what a reload gave: the rows kept and skipped, or its fault
abbrev pub refusal_text : FaultKind → List ℕ
refusal_text fault = codes "\trefused" ++ fault_text fault

abbrev pub note_text : DictNote → List ℕ
note_text (note.Read kept skipped) = codes "\tread\t" ++ (decimal kept ++ (codes "\t" ++ decimal skipped))
note_text (note.NotUtf8 line) = refusal_text (kind.NotUtf8 line)
note_text (note.Limit line) = refusal_text (kind.Limit line)

abbrev pub dict_text : List DictNote → ℕ → List ℕ
dict_text notes reload =
    codes "dict\t" ++ (decimal reload ++ (note_text (slice_index_or notes (reload - 1) (note.Limit 0)) ++ codes "\n"))

-- an entry of a user's journal: how many pairs were learned, and then the pairs
abbrev pub entry_text : Logs → UserLog → UserEntry → List ℕ
entry_text logs user (entry.Learn client seq pairs) =
    codes "learn\t" ++ (encode_utf8_all (client_name logs client) ++ (codes "\t" ++ (decimal seq ++ (codes "\t" ++ (decimal (length pairs) ++ (pairs_text pairs ++ codes "\n"))))))
entry_text logs user (entry.Dict reload) = dict_text user.dicts reload
entry_text logs user (entry.End client count) =
    codes "end\t" ++ (encode_utf8_all (client_name logs client) ++ (codes "\t" ++ (decimal count ++ codes "\n")))

-- a user and its journal
abbrev pub journal_text : Logs → UserLog → List ℕ
journal_text logs user =
    codes "journal\t" ++ (encode_utf8_all user.name ++ (codes "\n" ++ flat_map (entry_text logs user) user.entries))

abbrev pub event_text : Logs → Event → List ℕ
event_text logs (event.Job job outcome) = codes "job\t" ++ (decimal job ++ (codes "\t" ++ (outcome_text outcome ++ codes "\n")))
event_text logs (event.Dict user reload) = codes "dict\t" ++ (encode_utf8_all (user_name logs user) ++ (codes "\t" ++ (decimal reload ++ codes "\n")))
event_text logs (event.Learn client) = codes "learn\t" ++ (encode_utf8_all (client_name logs client) ++ codes "\n")
event_text logs (event.Take client job) = codes "take\t" ++ (encode_utf8_all (client_name logs client) ++ (codes "\t" ++ (decimal job ++ codes "\n")))
event_text logs (event.Await client job) = codes "await\t" ++ (encode_utf8_all (client_name logs client) ++ (codes "\t" ++ (decimal job ++ codes "\n")))
event_text logs (event.NotYet client) = codes "notyet\t" ++ (encode_utf8_all (client_name logs client) ++ codes "\n")
event_text logs (event.Step client) = codes "step\t" ++ (encode_utf8_all (client_name logs client) ++ codes "\n")
event_text logs (event.End client) = codes "end\t" ++ (encode_utf8_all (client_name logs client) ++ codes "\n")
event_text logs event.Close = codes "close\n"

abbrev pub schedule_section : Logs → List ℕ
schedule_section logs = codes "schedule\n" ++ flat_map (event_text logs) logs.events

-- the certificate of a conversion: client, command, version of the data and key, and its four lines
abbrev pub certificate_entry_text : Logs → CertEntry → List ℕ
certificate_entry_text logs entry =
    codes "cert\t" ++ (encode_utf8_all (client_name logs entry.client) ++ (codes "\t" ++ (decimal entry.number ++ (codes "\t" ++ (decimal entry.version ++ (codes "\t" ++ (encode_utf8_all entry.key ++ (codes "\n" ++ certificate_text entry.cert))))))))

abbrev pub certificates_of : Logs → List CertEntry → List ℕ
certificates_of logs entries = codes "certificates\n" ++ flat_map (certificate_entry_text logs) entries

-- certificates, where they are kept
abbrev pub kept_text : Logs → Option (List CertEntry) → List ℕ
kept_text logs None = []
kept_text logs (Some entries) = certificates_of logs entries

abbrev pub certificates_section : Logs → List ℕ
certificates_section logs = kept_text logs logs.certificates

-- The clients, the jobs, the users' journals, the events, and the certificates where they are kept.
abbrev pub report_text : Logs → List ℕ
report_text logs =
    flat_map (client_text logs) logs.clients
    ++ (jobs_section logs.jobs
    ++ (flat_map (journal_text logs) logs.users
    ++ (schedule_section logs ++ certificates_section logs)))

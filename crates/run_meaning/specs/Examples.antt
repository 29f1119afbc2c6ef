-- Worked examples: small worlds, their runs, and other lists of events.
use Rattle.std.specs.Prelude.{◌≡◌, ℕ, Bool, true, false, pos, List, [], ◌∷◌, Option, Some, Result, Ok, Err, codes, is_some, length, map, option_map}
use Rattle.std.specs.Fmt.{decimal}
use Rattle.mz_base.specs.Data.{DataLists}
use Rattle.mz_base.specs.declared.event.Event.{Event}
use Rattle.mz_base.specs.declared.event.Event.TheVariants as event
use Rattle.mz_base.specs.declared.event.Outcome.TheVariants as outcome
use Rattle.mz_base.specs.declared.fault.FaultKind.TheVariants as kind
use Rattle.mz_base.specs.declared.fault.Role.TheVariants as role
use Rattle.mz_base.specs.declared.logs.CertEntry.{CertEntry}
use Rattle.mz_base.specs.declared.logs.ClientLog.{ClientLog}
use Rattle.mz_base.specs.declared.logs.JobEntry.TheVariants as entry
use Rattle.mz_base.specs.declared.logs.Own.{Own}
use Rattle.mz_base.specs.declared.logs.UserEntry.{UserEntry}
use Rattle.mz_base.specs.declared.logs.UserEntry.TheVariants as noted
use Rattle.mz_base.specs.declared.report.Line.{Line}
use Rattle.mz_base.specs.declared.report.Mode.{Mode}
use Rattle.mz_base.specs.declared.report.Mode.TheVariants as mode
use Rattle.mz_base.specs.declared.report.Word.{Word}
use Rattle.mz_base.specs.declared.report.Word.TheVariants as word
use Rattle.mz_base.specs.declared.romaji.Rule.{Rule}
use Rattle.mz_base.specs.declared.status.BadSet.{BadSet}
use Rattle.mz_base.specs.declared.user.UserRow.{UserRow}
use Rattle.conversion_meaning.specs.Examples.{set, word_row}
use Rattle.keys.specs.declared.command.Command.{Command}
use Rattle.keys.specs.declared.command.Command.TheVariants as command
use Rattle.keys.specs.declared.key.Key.TheVariants as key
use Rattle.session_meaning.specs.Stages.{Pinned}
use Rattle.run_meaning.specs.JournalLaws.{its_entries, pairs_learned}
use Rattle.run_meaning.specs.Orders.{run, run_order}
use Rattle.run_meaning.specs.Plays.{is_complete, play}
use Rattle.run_meaning.specs.SeenLaws.{jobs_named, learns_before, seen_by}
use Rattle.run_meaning.specs.SoloLaws.{around_in}
use Rattle.run_meaning.specs.Solos.{Around, Solo, alone, answers_of, solo}
use Rattle.run_meaning.specs.States.{Client, State, client_at, client_log_of, journal_of, progress_of, start}
use Rattle.run_meaning.specs.Users.{rows_of}
use Rattle.run_meaning.specs.VersionLaws.{composes_with, jobs_at_lines}
use Rattle.run_meaning.specs.Worlds.{ClientPlan, NotUtf8, Read, Reload, UserPlan, World, no_lists}

-- ---- What the worlds are made of

-- あ, 亜, 阿
abbrev pub a : List ℕ
a = 0x3042 ∷ []

abbrev pub first_a : List ℕ
first_a = 0x4E9C ∷ []

abbrev pub second_a : List ℕ
second_a = 0x963F ∷ []

abbrev pub rules : List Rule
rules = record { input = codes "a"; output = a; pending = [] } ∷ []

-- romaji alone
abbrev pub romaji : DataLists
romaji = record no_lists { rules = rules }

-- two words, of which 亜 costs less
abbrev pub two_words : DataLists
two_words = record set { rules = rules; words = word_row a 1 1 300 first_a ∷ word_row a 1 1 350 second_a ∷ [] }

abbrev pub bad_set : BadSet
bad_set =
    record { path = codes "bad.txt"; fault = record { role = role.Connection; nth = 1; kind = kind.Count 9 8 } }

abbrev pub type_a : Command
type_a = command.Key (key.Char 0x61)

abbrev pub enter : Command
enter = command.Key key.Enter

abbrev pub space : Command
space = command.Key key.Space

abbrev pub plain_user : UserPlan
plain_user = record { name = codes "u"; reloads = [] }

abbrev pub client_with : List Command → ClientPlan
client_with commands = record { name = codes "c"; user = 1; commands = commands }

-- these jobs, one user, and clients with these commands
abbrev pub world_with : List (Result DataLists BadSet) → List (List Command) → World
world_with jobs clients =
    record { jobs = jobs; users = plain_user ∷ []; clients = map client_with clients; certificates = false }

abbrev pub line : Word → Mode → ℕ → List ℕ → List (List ℕ) → Line
line word mode version result rest = record { word = word; mode = mode; version = version; result = result; rest = rest }

-- the lines of each client
abbrev pub lines_of : State → List (List Line)
lines_of state = map (λ (log : ClientLog). log.lines) state.logs.clients

abbrev pub lines_after : World → List Event → Option (List (List Line))
lines_after world events = option_map lines_of (play world events)

-- the run is legal and complete, and has these events
pub record IsRun (world : World) (events : List Event) : Type 0 where
  pub order : run_order world ≡ events
  pub plays : play world events ≡ Some (run world)
  pub complete : is_complete world (run world) ≡ true

-- ---- One client

-- a, Enter
abbrev pub one_client : World
one_client = world_with (Ok romaji ∷ []) ((type_a ∷ enter ∷ []) ∷ [])

-- a take, two steps, the end
abbrev pub OneClientRun : Type 0
OneClientRun =
    IsRun one_client (event.Job 1 outcome.Published ∷ event.Take 1 1 ∷ event.Step 1 ∷ event.Step 1 ∷ event.End 1 ∷ event.Close ∷ [])

abbrev pub OneClientLines : Type 0
OneClientLines =
    lines_of (run one_client) ≡ (line word.Done mode.C 1 [] (a ∷ decimal 1 ∷ []) ∷ line word.Done mode.P 0 a [] ∷ []) ∷ []

-- ---- Waits, and a job that is refused

-- AWAIT 3, a, AWAIT 9
abbrev pub waiting : World
waiting =
    world_with (Ok romaji ∷ Err bad_set ∷ Ok romaji ∷ []) ((command.Await 3 ∷ type_a ∷ command.Await 9 ∷ []) ∷ [])

-- the jobs come for the first wait, and the log closes for the second
abbrev pub WaitingRun : Type 0
WaitingRun =
    IsRun waiting (event.Job 1 outcome.Published ∷ event.Job 2 outcome.Refused ∷ event.Job 3 outcome.Published ∷ event.Await 1 3 ∷ event.Take 1 3 ∷ event.Step 1 ∷ event.Close ∷ event.NotYet 1 ∷ event.End 1 ∷ [])

abbrev pub WaitingLines : Type 0
WaitingLines =
    lines_of (run waiting) ≡ (line word.Awaited mode.P 0 [] (decimal 3 ∷ []) ∷ line word.Done mode.C 3 [] (a ∷ decimal 1 ∷ []) ∷ line word.NotYet mode.C 3 [] (decimal 3 ∷ []) ∷ []) ∷ []

abbrev pub WaitingJobs : Type 0
WaitingJobs =
    (run waiting).logs.jobs ≡ entry.Published 1 ∷ entry.Refused 2 bad_set.path bad_set.fault ∷ entry.Published 3 ∷ []

-- a job that comes after a higher one is skipped
abbrev pub three_jobs : World
three_jobs = world_with (Ok romaji ∷ Ok romaji ∷ Ok romaji ∷ []) []

abbrev pub SkippedJob : Type 0
SkippedJob =
    option_map (λ (state : State). state.logs.jobs) (play three_jobs (event.Job 1 outcome.Published ∷ event.Job 3 outcome.Published ∷ event.Job 2 outcome.Skipped ∷ event.Close ∷ [])) ≡ Some (entry.Published 1 ∷ entry.Published 3 ∷ entry.Skipped 2 3 ∷ [])

-- ---- Two clients of one user

-- a, SELECT 2; a
abbrev pub two_clients : World
two_clients = world_with (Ok two_words ∷ []) ((type_a ∷ command.Select 2 ∷ []) ∷ (type_a ∷ []) ∷ [])

abbrev pub first_lines : List Line
first_lines =
    line word.Done mode.C 1 [] (a ∷ decimal 1 ∷ first_a ∷ second_a ∷ []) ∷ line word.Done mode.P 0 second_a [] ∷ []

-- the second takes after the first learned
abbrev pub TakenAfter : Type 0
TakenAfter =
    lines_after two_clients (event.Job 1 outcome.Published ∷ event.Take 1 1 ∷ event.Step 1 ∷ event.Learn 1 ∷ event.Take 2 1 ∷ event.Step 1 ∷ event.Step 2 ∷ []) ≡ Some (first_lines ∷ (line word.Done mode.C 1 [] (a ∷ decimal 1 ∷ second_a ∷ first_a ∷ []) ∷ []) ∷ [])

-- and before
abbrev pub TakenBefore : Type 0
TakenBefore =
    lines_after two_clients (event.Job 1 outcome.Published ∷ event.Take 2 1 ∷ event.Take 1 1 ∷ event.Step 1 ∷ event.Learn 1 ∷ event.Step 1 ∷ event.Step 2 ∷ []) ≡ Some (first_lines ∷ (line word.Done mode.C 1 [] (a ∷ decimal 1 ∷ first_a ∷ second_a ∷ []) ∷ []) ∷ [])

abbrev pub journal_after : World → List Event → ℕ → Option (List UserEntry)
journal_after world events user = option_map (λ state. journal_of state user) (play world events)

-- in a run the first is served first, and the journal has its learn and both ends
abbrev pub TwoClientsRun : Type 0
TwoClientsRun =
    IsRun two_clients (event.Job 1 outcome.Published ∷ event.Take 1 1 ∷ event.Step 1 ∷ event.Learn 1 ∷ event.Step 1 ∷ event.End 1 ∷ event.Take 2 1 ∷ event.Step 2 ∷ event.End 2 ∷ event.Close ∷ [])

abbrev pub TwoClientsJournal : Type 0
TwoClientsJournal =
    journal_of (run two_clients) 1 ≡ noted.Learn 1 1 (record { key = a; value = second_a } ∷ []) ∷ noted.End 1 1 ∷ noted.End 2 0 ∷ []

-- ---- Reloads

abbrev pub row : List ℕ → UserRow
row word = record { reading = a; word = word; pos = []; line = 1 }

-- a reload that reads, one that does not, and a third one that reads
abbrev pub reloads : List Reload
reloads = Read (row first_a ∷ []) 0 ∷ NotUtf8 3 ∷ Read (row second_a ∷ []) 0 ∷ []

abbrev pub RefusedReload : Type 0
RefusedReload = rows_of reloads (noted.Dict 1 ∷ noted.Dict 2 ∷ []) ≡ row first_a ∷ []

abbrev pub LowerReload : Type 0
LowerReload = rows_of reloads (noted.Dict 3 ∷ noted.Dict 1 ∷ []) ≡ row second_a ∷ []

abbrev pub NoReload : Type 0
NoReload = rows_of reloads (noted.Dict 2 ∷ []) ≡ []

-- one job, these reloads, and a
abbrev pub reloading : World
reloading =
    record { jobs = Ok romaji ∷ []; users = record { name = codes "u"; reloads = reloads } ∷ []; clients = client_with (type_a ∷ []) ∷ []; certificates = false }

-- the reloads that no job has follow the clients
abbrev pub ReloadingRun : Type 0
ReloadingRun =
    IsRun reloading (event.Job 1 outcome.Published ∷ event.Dict 1 1 ∷ event.Take 1 1 ∷ event.Step 1 ∷ event.End 1 ∷ event.Dict 1 2 ∷ event.Dict 1 3 ∷ event.Close ∷ [])

-- a take after the refused one has the rows of the one before
abbrev pub taken_after : World → List Event → Option (Option Pinned)
taken_after world events = option_map (λ state. (progress_of state 1).taken) (play world events)

abbrev pub ReloadingTake : Type 0
ReloadingTake =
    taken_after reloading (event.Job 1 outcome.Published ∷ event.Dict 1 1 ∷ event.Dict 1 2 ∷ event.Take 1 1 ∷ []) ≡ Some (Some (record { version = 1; lists = romaji; history = []; rows = row first_a ∷ [] }))

-- ---- Certificates

-- a, Space, with certificates
abbrev pub certifying : World
certifying =
    record (world_with (Ok (record set { rules = rules }) ∷ []) ((type_a ∷ space ∷ []) ∷ [])) { certificates = true }

abbrev pub a_entry : CertEntry
a_entry =
    record { client = 1; number = 2; version = 1; key = a; cert = record { bounds = []; path = 0 ∷ []; potentials = pos 5100 ∷ []; total = pos 5200 } }

abbrev pub CertifyingRun : Type 0
CertifyingRun = (run certifying).logs.certificates ≡ Some (a_entry ∷ [])

-- ---- One client alone

abbrev pub own : Event → ℕ → Own
own e entries = record { event = e; prefix = entries }

-- the second client's own events in the run: its take saw the first one's learn and end
abbrev pub second_own : List Own
second_own = own (event.Take 2 1) 2 ∷ own (event.Step 2) 0 ∷ own (event.End 2) 0 ∷ []

abbrev pub second_lines : List Line
second_lines = line word.Done mode.C 1 [] (a ∷ decimal 1 ∷ second_a ∷ first_a ∷ []) ∷ []

-- what the run leaves of it
abbrev pub SecondLog : Type 0
SecondLog =
    client_log_of (run two_clients) 2 ≡ record { name = codes "c"; user = 1; lines = second_lines; own = second_own }

-- what its own events are read with
abbrev pub around_second : Around
around_second =
    record { user = 1; jobs = entry.Published 1 ∷ []; closed = true; journal = noted.Learn 1 1 (record { key = a; value = second_a } ∷ []) ∷ noted.End 1 1 ∷ noted.End 2 0 ∷ [] }

-- these alone lead to its lines
abbrev pub SecondAlone : Type 0
SecondAlone =
    option_map (λ (client : Client). client.log.lines) (alone two_clients around_second (client_at (start two_clients) 2) second_own) ≡ Some second_lines

-- and so do its commands with the answers that these name
abbrev pub SecondSolo : Type 0
SecondSolo =
    option_map (λ (s : Solo). s.lines) (solo 2 (type_a ∷ []) (answers_of two_clients around_second second_own)) ≡ Some second_lines

-- ---- Data are replaced while a client types

-- two jobs, and a, Space, a
abbrev pub replacing : World
replacing = world_with (Ok two_words ∷ Ok two_words ∷ []) ((type_a ∷ space ∷ type_a ∷ []) ∷ [])

-- job 2 comes before the conversion, which still has the data of job 1; the next character commits, and then takes those of 2
abbrev pub replaced : List Event
replaced =
    event.Job 1 outcome.Published ∷ event.Take 1 1 ∷ event.Step 1 ∷ event.Job 2 outcome.Published ∷ event.Step 1 ∷ event.Learn 1 ∷ event.Take 1 2 ∷ event.Step 1 ∷ []

abbrev pub after_replaced : {A : Type 0} → (State → A) → Option A
after_replaced word = option_map word (play replacing replaced)

-- what the laws say of its client
pub record IsReplaced : Type 0 where
  -- each line has the version of the last take before it
  pub versions : after_replaced (λ state. map (λ (line : Line). line.version) (client_log_of state 1).lines) ≡ Some (1 ∷ 1 ∷ 2 ∷ [])
  pub jobs : after_replaced (λ state. jobs_at_lines 0 (client_log_of state 1).own) ≡ Some (1 ∷ 1 ∷ 2 ∷ [])
  -- the jobs that it named, and how much of the journal its takes saw, with how many learns
  pub named : after_replaced (λ state. jobs_named (client_log_of state 1).own) ≡ Some (1 ∷ 2 ∷ [])
  pub seen : after_replaced (λ state. map length (seen_by replacing state 1)) ≡ Some (0 ∷ 1 ∷ [])
  pub learns : after_replaced (λ state. learns_before 0 (client_log_of state 1).own) ≡ Some (0 ∷ 1 ∷ [])
  -- its entries, and the pairs that its own events learn
  pub entries : after_replaced (λ state. its_entries replacing state 1) ≡ Some (noted.Learn 1 1 (record { key = a; value = first_a } ∷ []) ∷ [])
  pub pairs : after_replaced (λ state. pairs_learned replacing (around_in replacing state 1) (client_at (start replacing) 1) (client_log_of state 1).own) ≡ Some ((record { key = a; value = first_a } ∷ []) ∷ [])
  -- the data that it composes with
  pub composed : after_replaced (λ state. composes_with (client_at state 1)) ≡ Some (Some (record { version = 2; lists = two_words; history = record { key = a; value = first_a } ∷ []; rows = [] }))

-- ---- What is not legal

abbrev pub is_legal : World → List Event → Bool
is_legal world events = is_some (play world events)

-- the events of a world that begins with job 1
abbrev pub is_legal_after : World → List Event → Bool
is_legal_after world events = is_legal world (event.Job 1 outcome.Published ∷ events)

-- jobs and the close of the log
pub record NoSuchJob : Type 0 where
  -- job 1 is first, and reads
  pub close_first : is_legal one_client (event.Close ∷ []) ≡ false
  pub third_first : is_legal three_jobs (event.Job 3 outcome.Published ∷ []) ≡ false
  pub refused_first : is_legal (world_with (Err bad_set ∷ []) []) (event.Job 1 outcome.Refused ∷ []) ≡ false
  -- a job is one of the world's, and comes once
  pub again : is_legal_after one_client (event.Job 1 outcome.Skipped ∷ []) ≡ false
  pub none : is_legal_after one_client (event.Job 2 outcome.Published ∷ []) ≡ false
  -- with its own outcome
  pub too_late : is_legal_after three_jobs (event.Job 3 outcome.Published ∷ event.Job 2 outcome.Published ∷ []) ≡ false
  pub in_time : is_legal_after three_jobs (event.Job 2 outcome.Skipped ∷ []) ≡ false
  pub sound : is_legal_after three_jobs (event.Job 2 outcome.Refused ∷ []) ≡ false
  pub faulty : is_legal_after waiting (event.Job 2 outcome.Published ∷ []) ≡ false
  -- the log closes once, after all jobs
  pub early : is_legal_after three_jobs (event.Close ∷ []) ≡ false
  pub twice : is_legal_after one_client (event.Close ∷ event.Close ∷ []) ≡ false

-- reloads
pub record NoSuchReload : Type 0 where
  pub no_user : is_legal_after reloading (event.Dict 2 1 ∷ []) ≡ false
  pub none : is_legal_after reloading (event.Dict 1 4 ∷ []) ≡ false
  pub zero : is_legal_after reloading (event.Dict 1 0 ∷ []) ≡ false
  pub twice : is_legal_after reloading (event.Dict 1 2 ∷ event.Dict 1 2 ∷ []) ≡ false

-- three jobs, and AWAIT 2, a
abbrev pub waiting_first : World
waiting_first = world_with (Ok romaji ∷ Ok romaji ∷ Ok romaji ∷ []) ((command.Await 2 ∷ type_a ∷ []) ∷ [])

-- takes, and steps
pub record NoSuchStep : Type 0 where
  pub client_zero : is_legal_after one_client (event.Take 0 1 ∷ []) ≡ false
  pub client_two : is_legal_after one_client (event.Take 2 1 ∷ []) ≡ false
  pub job_zero : is_legal_after one_client (event.Take 1 0 ∷ []) ≡ false
  pub job_two : is_legal_after one_client (event.Take 1 2 ∷ []) ≡ false
  pub twice : is_legal_after one_client (event.Take 1 1 ∷ event.Take 1 1 ∷ []) ≡ false
  pub unneeded : is_legal_after one_client (event.Take 1 1 ∷ event.Step 1 ∷ event.Take 1 1 ∷ []) ≡ false
  pub untaken : is_legal_after one_client (event.Step 1 ∷ []) ≡ false
  pub unlearned : is_legal_after two_clients (event.Take 1 1 ∷ event.Step 1 ∷ event.Step 1 ∷ []) ≡ false
  pub learned_twice : is_legal_after two_clients (event.Take 1 1 ∷ event.Step 1 ∷ event.Learn 1 ∷ event.Learn 1 ∷ []) ≡ false
  pub nothing_to_learn : is_legal_after one_client (event.Learn 1 ∷ []) ≡ false
  pub no_command : is_legal_after one_client (event.Take 1 1 ∷ event.Step 1 ∷ event.Step 1 ∷ event.Step 1 ∷ []) ≡ false
  pub wait : is_legal_after waiting_first (event.Step 1 ∷ []) ≡ false
  pub lower_than_seen : is_legal_after waiting_first (event.Job 2 outcome.Published ∷ event.Await 1 2 ∷ event.Take 1 1 ∷ []) ≡ false

-- waits, and the end
pub record NoSuchEnd : Type 0 where
  pub no_wait : is_legal_after one_client (event.Await 1 1 ∷ []) ≡ false
  pub below : is_legal_after waiting_first (event.Await 1 1 ∷ []) ≡ false
  pub unpublished : is_legal_after waiting_first (event.Await 1 2 ∷ []) ≡ false
  pub skipped : is_legal_after waiting_first (event.Job 3 outcome.Published ∷ event.Job 2 outcome.Skipped ∷ event.Await 1 2 ∷ []) ≡ false
  pub before_close : is_legal_after waiting_first (event.NotYet 1 ∷ []) ≡ false
  pub one_would_do : is_legal_after waiting_first (event.Job 2 outcome.Published ∷ event.Job 3 outcome.Published ∷ event.Close ∷ event.NotYet 1 ∷ []) ≡ false
  pub early : is_legal_after one_client (event.End 1 ∷ []) ≡ false
  pub twice : is_legal_after one_client (event.Take 1 1 ∷ event.Step 1 ∷ event.Step 1 ∷ event.End 1 ∷ event.End 1 ∷ []) ≡ false

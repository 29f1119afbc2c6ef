-- A client composes with one version of its data at a time: that of its last take.
use Rattle.std.specs.Prelude.{◌≡◌, ℕ, ◌==◌, ◌⊎◌, Bool, true, false, IsTrue, List, [], ◌∷◌, ◌++◌, Option, Some, None, if◌then◌else◌, option_map, take, unwrap_or}
use Rattle.std.specs.List.{AllZip, fold, list_any}
use Rattle.mz_base.specs.declared.event.Event.{Event}
use Rattle.mz_base.specs.declared.event.Event.TheVariants as event
use Rattle.mz_base.specs.declared.logs.Own.{Own}
use Rattle.mz_base.specs.declared.logs.UserEntry.{UserEntry}
use Rattle.mz_base.specs.declared.report.Line.{Line}
use Rattle.mz_base.specs.declared.report.Mode.{Mode}
use Rattle.mz_base.specs.declared.report.Mode.TheVariants as mode
use Rattle.keys.specs.declared.command.Command.{Command}
use Rattle.keys.specs.declared.command.Command.TheVariants as command
use Rattle.keys.specs.declared.key.Key.TheVariants as key
use Rattle.session_meaning.specs.Laws.{pinned_in}
use Rattle.session_meaning.specs.Stages.{Pinned, mode_of}
use Rattle.run_meaning.specs.JournalLaws.{commits}
use Rattle.run_meaning.specs.Plays.{apply, play, play_from}
use Rattle.run_meaning.specs.States.{Client, State, client_at, journal_of}
use Rattle.run_meaning.specs.Users.{data_of}
use Rattle.run_meaning.specs.Worlds.{World, user_of}

-- the data with which a client composes: a set, a history and a dictionary; none in precomposition
abbrev pub composes_with : Client → Option Pinned
composes_with client = pinned_in client.progress.session.stage

-- the data afterwards are these, or the client is in precomposition and has none
abbrev pub AreStill : Option Pinned → Option Pinned → Type 0
AreStill these afterwards = (afterwards ≡ these) ⊎ (afterwards ≡ None)

-- ---- Without a take

abbrev pub takes : ℕ → Event → Bool
takes c (event.Take client job) = client == c
takes c _ = false

-- over events in which a client has no take, and where none waits for its next command, its data stay
abbrev pub DataStay : Type 0
DataStay =
    (world : World) (events more : List Event) (s t : State) (c : ℕ) → play world events ≡ Some s → play_from world s more ≡ Some t → list_any (takes c) more ≡ false → (client_at s c).progress.taken ≡ None → AreStill (composes_with (client_at s c)) (composes_with (client_at t c))

-- ---- With a take

-- a step for which data were taken ends with just these
abbrev pub TakenAreUsed : Type 0
TakenAreUsed =
    (world : World) (events : List Event) (s t : State) (c : ℕ) (pinned : Pinned) → play world events ≡ Some s → apply world s (event.Step c) ≡ Some t → (client_at s c).progress.taken ≡ Some pinned → AreStill (Some pinned) (composes_with (client_at t c))

-- the job of a take
abbrev pub job_taken : Event → Option ℕ
job_taken (event.Take c job) = Some job
job_taken _ = None

-- the data of a take, of a user with this journal; those before where the own event is none
abbrev pub data_after : World → ℕ → List UserEntry → Option Pinned → Own → Option Pinned
data_after world user journal before own =
    unwrap_or (option_map (λ job. Some (data_of world user job (take own.prefix journal))) (job_taken own.event)) before

-- the data of a client's last take
abbrev pub last_taken : World → State → ℕ → Option Pinned
last_taken world s c =
    let user = user_of world c in
    fold (data_after world user (journal_of s user)) None (client_at s c).log.own

-- What waits for a client's next command are the data of its last take; and where nothing waits, what it composes has them.
pub record HasTaken (client : Client) (last : Option Pinned) : Type 0 where
  pub waiting : (pinned : Pinned) → client.progress.taken ≡ Some pinned → last ≡ Some pinned
  pub composing : client.progress.taken ≡ None → AreStill last (composes_with client)

abbrev pub LastIsUsed : Type 0
LastIsUsed =
    (world : World) (events : List Event) (s : State) (c : ℕ) → play world events ≡ Some s → HasTaken (client_at s c) (last_taken world s c)

-- ---- When a take comes

abbrev pub mode_at : Client → Mode
mode_at client = mode_of client.progress.session.stage

-- The next command types a character: in precomposition; or in conversion, where it commits first, and what it commits was
-- learned.
pub record TypesNext (client : Client) : Type 0 where
  pub letter : ℕ
  pub rest : List Command
  pub next : client.progress.rest ≡ command.Key (key.Char letter) ∷ rest
  pub begins : (mode_at client ≡ mode.P) ⊎ ((mode_at client ≡ mode.V) × IsTrue (commits client) × IsTrue client.progress.learned)

abbrev pub TakesAreTyped : Type 0
TakesAreTyped =
    (world : World) (s t : State) (c job : ℕ) → apply world s (event.Take c job) ≡ Some t → TypesNext (client_at s c)

-- ---- Lines

-- own events that make a line
abbrev pub makes_line : Event → Bool
makes_line (event.Step c) = true
makes_line (event.Await c job) = true
makes_line (event.NotYet c) = true
makes_line _ = false

abbrev pub job_after : ℕ → Own → ℕ
job_after before own = unwrap_or (job_taken own.event) before

-- for each line that own events make the job of the last take before it; `before` where none is
abbrev pub jobs_at_lines : ℕ → List Own → List ℕ
jobs_at_lines before [] = []
jobs_at_lines before (own ∷ rest) =
    (if makes_line own.event then before ∷ [] else []) ++ jobs_at_lines (job_after before own) rest

-- the version that a line shows: 0 in precomposition, else this job
abbrev pub version_in : Mode → ℕ → ℕ
version_in mode.P job = 0
version_in _ job = job

-- each line of a client has that of its last take before it
abbrev pub LinesHaveVersion : Type 0
LinesHaveVersion =
    (world : World) (events : List Event) (s : State) (c : ℕ) → play world events ≡ Some s → AllZip (λ (line : Line) (job : ℕ). line.version ≡ version_in line.mode job) (client_at s c).log.lines (jobs_at_lines 0 (client_at s c).log.own)

-- What the job log and the journals have.
use Rattle.std.specs.Prelude.{◌≡◌, ℕ, ◌<◌, ◌≤◌, ◌==◌, AllPairs, IsOk, IsTrue, List, Option, Some, None, count_by, filter_map, nat_lt}
use Rattle.mz_base.specs.declared.event.Event.{Event}
use Rattle.mz_base.specs.declared.logs.JobEntry.{JobEntry}
use Rattle.mz_base.specs.declared.logs.JobEntry.TheVariants as entry
use Rattle.run_meaning.specs.Jobs.{is_passed, is_published, job_of, newest}
use Rattle.run_meaning.specs.Numbers.{is_number}
use Rattle.run_meaning.specs.Plays.{play}
use Rattle.run_meaning.specs.States.{State, journal_of}
use Rattle.run_meaning.specs.Users.{enters}
use Rattle.run_meaning.specs.Worlds.{World, job_at}

-- ---- Published jobs

abbrev pub published_by : JobEntry → Option ℕ
published_by (entry.Published job) = Some job
published_by _ = None

-- the published jobs, in the order of the log
abbrev pub published_in : List JobEntry → List ℕ
published_in log = filter_map published_by log

-- they rise
abbrev pub PublishedRise : Type 0
PublishedRise =
    (world : World) (events : List Event) (s : State) → play world events ≡ Some s → AllPairs ◌<◌ (published_in s.logs.jobs)

-- so a higher job stands published exactly where the newest is higher
abbrev pub NewestPasses : Type 0
NewestPasses =
    (world : World) (events : List Event) (s : State) (job : ℕ) → play world events ≡ Some s → is_passed s.logs.jobs job ≡ nat_lt job (newest s.logs.jobs)

-- each reads
abbrev pub PublishedRead : Type 0
PublishedRead =
    (world : World) (events : List Event) (s : State) (job : ℕ) → play world events ≡ Some s → IsTrue (is_published s.logs.jobs job) → IsOk (job_at world job)

-- a job that stands published, and is the highest of the world's that read
pub record IsHighestThatReads (world : World) (s : State) (job : ℕ) : Type 0 where
  pub published : IsTrue (is_published s.logs.jobs job)
  pub highest : (other : ℕ) → IsTrue (is_number world.jobs other) → IsOk (job_at world other) → other ≤ job

-- the newest of a closed log is, whatever the order
abbrev pub NewestIsHighest : Type 0
NewestIsHighest =
    (world : World) (events : List Event) (s : State) → play world events ≡ Some s → IsTrue s.logs.closed → IsHighestThatReads world s (newest s.logs.jobs)

-- ---- How often

-- each job stands at most once, and in a closed log once
abbrev pub times_logged : List JobEntry → ℕ → ℕ
times_logged log job = count_by (λ e. job_of e == job) log

abbrev pub JobsComeOnce : Type 0
JobsComeOnce =
    (world : World) (events : List Event) (s : State) (job : ℕ) → play world events ≡ Some s → times_logged s.logs.jobs job ≤ 1

abbrev pub ClosedHasEach : Type 0
ClosedHasEach =
    (world : World) (events : List Event) (s : State) (job : ℕ) → play world events ≡ Some s → IsTrue s.logs.closed → IsTrue (is_number world.jobs job) → times_logged s.logs.jobs job ≡ 1

-- each reload of a user at most once
abbrev pub ReloadsComeOnce : Type 0
ReloadsComeOnce =
    (world : World) (events : List Event) (s : State) (user reload : ℕ) → play world events ≡ Some s → count_by (enters reload) (journal_of s user) ≤ 1

-- The job log, and what becomes of a job.
use Rattle.std.specs.Prelude.{ℕ, ◌==◌, Bool, true, false, List, Result, Ok, Err, if◌then◌else◌, nat_lt}
use Rattle.std.specs.List.{fold, list_any}
use Rattle.mz_base.specs.Data.{DataLists}
use Rattle.mz_base.specs.declared.event.Outcome.{Outcome}
use Rattle.mz_base.specs.declared.event.Outcome.TheVariants as outcome
use Rattle.mz_base.specs.declared.logs.JobEntry.{JobEntry}
use Rattle.mz_base.specs.declared.logs.JobEntry.TheVariants as entry
use Rattle.mz_base.specs.declared.status.BadSet.{BadSet}

abbrev pub job_of : JobEntry → ℕ
job_of (entry.Published job) = job
job_of (entry.Refused job path fault) = job
job_of (entry.Skipped job by) = job

abbrev pub outcome_of : JobEntry → Outcome
outcome_of (entry.Published job) = outcome.Published
outcome_of (entry.Refused job path fault) = outcome.Refused
outcome_of (entry.Skipped job by) = outcome.Skipped

-- the job came
abbrev pub is_logged : List JobEntry → ℕ → Bool
is_logged log job = list_any (λ e. job_of e == job) log

abbrev pub publishes : ℕ → JobEntry → Bool
publishes job (entry.Published other) = other == job
publishes job _ = false

-- the job stands published
abbrev pub is_published : List JobEntry → ℕ → Bool
is_published log job = list_any (publishes job) log

abbrev pub publishes_above : ℕ → JobEntry → Bool
publishes_above job (entry.Published other) = nat_lt job other
publishes_above job _ = false

-- a higher job stands published
abbrev pub is_passed : List JobEntry → ℕ → Bool
is_passed log job = list_any (publishes_above job) log

abbrev pub newer : ℕ → JobEntry → ℕ
newer before (entry.Published job) = job
newer before _ = before

-- the newest published job; 0 where none is published
abbrev pub newest : List JobEntry → ℕ
newest log = fold newer 0 log

-- What becomes of a job after this log: it is refused where its files have a fault, else skipped where a higher job stands
-- published, else published. A skipped one notes the newest published job.
abbrev pub entry_after : List JobEntry → ℕ → Result DataLists BadSet → JobEntry
entry_after log job (Err bad) = entry.Refused job bad.path bad.fault
entry_after log job (Ok lists) = if is_passed log job then entry.Skipped job (newest log) else entry.Published job

abbrev pub is_outcome : Outcome → Outcome → Bool
is_outcome outcome.Published outcome.Published = true
is_outcome outcome.Refused outcome.Refused = true
is_outcome outcome.Skipped outcome.Skipped = true
is_outcome _ _ = false

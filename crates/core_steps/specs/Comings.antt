-- Jobs, reloads and the close of the log: when each may come at a place, and what it makes.
use Rattle.std.specs.Prelude.{◌≡◌, ◌<◌, ◌+◌, ℕ, true, length}
use Rattle.mz_base.specs.declared.event.Event.TheVariants as event
use Rattle.mz_base.specs.declared.event.Outcome.{Outcome}
use Rattle.run_meaning.specs.Jobs.{entry_after}
use Rattle.run_meaning.specs.Plays.{closed, is_job_legal, is_reload_legal, with_event, with_job, with_reload}
use Rattle.run_meaning.specs.Worlds.{job_at}
use Rattle.core_steps.specs.Cores.{Ran}
use Rattle.core_steps.specs.Kepts.{Kept}

-- the job is the one at the place, and may come with this outcome
pub record JobMayCome (kept : Kept) (job : ℕ) (outcome : Outcome) (place : ℕ) : Type 0 where
  pub number : job ≡ place + 1
  pub within : place < length kept.world.jobs
  pub legal : is_job_legal kept.world kept.state job outcome ≡ true

-- the user is the one at the place, and the reload may come
pub record ReloadMayCome (kept : Kept) (user reload place : ℕ) : Type 0 where
  pub number : user ≡ place + 1
  pub within : place < length kept.users
  pub legal : is_reload_legal kept.world kept.state user reload ≡ true

-- ---- What they make

abbrev pub with_job_now : Ran → ℕ → Outcome → Ran
with_job_now ran job outcome =
    record ran { state = with_event (with_job ran.state (entry_after ran.state.logs.jobs job (job_at ran.world job))) (event.Job job outcome) }

abbrev pub closed_now : Ran → Ran
closed_now ran = record ran { state = with_event (closed ran.state) event.Close }

abbrev pub with_reload_now : Ran → ℕ → ℕ → Ran
with_reload_now ran user reload =
    record ran { state = with_event (with_reload ran.state user reload) (event.Dict user reload) }

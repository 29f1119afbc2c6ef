-- What the events of a run keep, whichever of them are legal.
use Rattle.std.proofs.Common.{◌≡◌, length, refl, ap, ◌∙◌, ℕ, List, [], ◌∷◌, ◌++◌, Bool, true, false, Option, Some, None, unwrap_or, if◌then◌else◌, map}
use Rattle.std.specs.Prelude.{fold, nat_le, nat_lt, option_and_then}
use Rattle.mz_base.specs.declared.event.Event.{Event}
use Rattle.mz_base.specs.declared.event.Event.TheVariants as event
use Rattle.keys.specs.declared.command.Command.{Command}
use Rattle.keys.specs.declared.command.Command.TheVariants as command
use Rattle.session_meaning.specs.Steps.{needs}
use Rattle.run_meaning.specs.Numbers.{numbers}
use Rattle.run_meaning.specs.OrderLaws.{RunIsPlayed}
use Rattle.run_meaning.specs.Jobs.{entry_after, newest, outcome_of}
use Rattle.run_meaning.specs.Orders.{all_jobs, all_made, all_served, answered, before_step, job_came, jobs_left, made, obeyed, reload_came, reloads_left, run, served, then_closed, unless_reached, users_with, waited}
use Rattle.run_meaning.specs.Plays.{apply, play}
use Rattle.run_meaning.specs.States.{State, progress_of, start}
use Rattle.run_meaning.specs.Worlds.{World, client_plan, job_at}
use Rattle.run_meaning.proofs.NoteLemmas.{noted-apply, play-more}

module _ (world : World) where
  -- what holds of a state and of what a legal event makes of it holds after the event is made
  pub made-keeps : (P : State → Type 0) (s : State) (e : Event) → P s → ((t : State) → apply world s e ≡ Some t → P t) → P (made world s e)
  unfolding made
  made-keeps P s e here next = by_case (apply world s e) refl
    where
      by_case : (o : Option State) → apply world s e ≡ o → P (unwrap_or o s)
      by_case None is = here
      by_case (Some t) is = next t is

  -- a legal event is made
  pub made-legal : (s t : State) (e : Event) → apply world s e ≡ Some t → made world s e ≡ t
  unfolding made
  made-legal s t e is = ap (λ o. unwrap_or o s) is

  -- what each event keeps stays over a run
  module _ (P : State → Type 0) (kept : (s : State) (e : Event) → P s → P (made world s e)) where
    over-fold : {A : Type 0} (f : State → A → State) → ((s : State) (x : A) → P s → P (f s x)) → (s : State) (xs : List A) → P s → P (fold f s xs)
    over-fold f each s [] holds = holds
    over-fold f each s (x ∷ xs) holds = over-fold f each (f s x) xs (each s x holds)

    over-events : (s : State) (events : List Event) → P s → P (all_made world s events)
    over-events s events holds = over-fold (made world) (λ s e. kept s e) s events holds

    over-reload : (s : State) (reload : ℕ) → P s → P (reload_came world s reload)
    over-reload s reload holds = over-events s (map (λ user. event.Dict user reload) (users_with world reload)) holds

    over-job : (s : State) (job : ℕ) → P s → P (job_came world s job)
    over-job s job holds =
        let e = event.Job job (outcome_of (entry_after s.logs.jobs job (job_at world job))) in
        over-reload (made world s e) job (kept s e holds)

    by_test : (b : Bool) (s t : State) → P s → P t → P (if b then s else t)
    by_test true s t one other = one
    by_test false s t one other = other

    over-close : (s : State) → P s → P (then_closed world s)
    over-close s holds = by_test s.logs.closed s (made world s event.Close) holds (kept s event.Close holds)

    over-wait : (wanted : ℕ) (s : State) → P s → P (waited world s wanted)
    over-wait wanted s holds =
        over-fold (unless_reached world wanted) (λ s job holds. by_test (nat_lt (newest s.logs.jobs) wanted) (job_came world s job) s (over-job s job holds) holds) s (jobs_left world s) holds

    over-answer : (c wanted : ℕ) (s : State) → P s → P (answered world c wanted s)
    over-answer c wanted s holds =
        by_test (nat_le wanted (newest s.logs.jobs)) (made world s (event.Await c (newest s.logs.jobs))) (made world (then_closed world s) (event.NotYet c)) (kept s (event.Await c (newest s.logs.jobs)) holds) (kept (then_closed world s) (event.NotYet c) (over-close s holds))

    abbrev events_for : ℕ → State → Command → List Event
    events_for c s next =
        before_step (needs (progress_of s c).session next) c (newest s.logs.jobs) ++ event.Step c ∷ []

    over-command : (c : ℕ) (s : State) (next : Command) → P s → P (obeyed world c s next)
    over-command c s (command.Await wanted) holds = over-answer c wanted (waited world s wanted) (over-wait wanted s holds)
    over-command c s (command.Key key) holds = over-events s (events_for c s (command.Key key)) holds
    over-command c s (command.Select n) holds = over-events s (events_for c s (command.Select n)) holds
    over-command c s command.Reset holds = over-events s (events_for c s command.Reset) holds
    over-command c s (command.ExpectPreedit text) holds = over-events s (events_for c s (command.ExpectPreedit text)) holds
    over-command c s (command.ExpectResult text) holds = over-events s (events_for c s (command.ExpectResult text)) holds

    over-client : (s : State) (c : ℕ) → P s → P (served world s c)
    over-client s c holds =
        kept (fold (obeyed world c) s (client_plan world c).commands) (event.End c) (over-fold (obeyed world c) (over-command c) s (client_plan world c).commands holds)

    pub over-run : P (start world) → P (run world)
    unfolding run
    over-run opens =
        let served_all = over-fold (served world) over-client (job_came world (start world) 1) (numbers (length world.clients)) (over-job (start world) 1 opens) in
        let jobs = over-fold (job_came world) over-job (all_served world) (jobs_left world (all_served world)) served_all in
        let reloads = over-fold (reload_came world) over-reload (all_jobs world (all_served world)) (reloads_left world) jobs in
        over-close (fold (reload_came world) (all_jobs world (all_served world)) (reloads_left world)) reloads

  -- the events that were noted lead to the state
  abbrev pub IsPlayed : State → Type 0
  IsPlayed s = play world s.logs.events ≡ Some s

  pub played-made : (s : State) (e : Event) → IsPlayed s → IsPlayed (made world s e)
  played-made s e played =
      made-keeps IsPlayed s e played (λ t here. ap (play world) (noted-apply world s t e here) ∙ play-more world e (start world) s.logs.events ∙ ap (option_and_then (λ u. apply world u e)) played ∙ here)

pub run_is_played : RunIsPlayed
run_is_played world = over-run world (IsPlayed world) (played-made world) refl

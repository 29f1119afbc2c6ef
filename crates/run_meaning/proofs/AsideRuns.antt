-- The keeping of certificates changes nothing else of a run, nor of its order.
use Rattle.std.proofs.Common.{◌≡◌, refl, ap, ◌∙◌, sym, ℕ, Bool, true, false, List, [], ◌∷◌, ◌++◌, Option, Some, None, length, map, option_map, unwrap_or, if◌then◌else◌}
use Rattle.std.specs.Prelude.{fold, nat_le, nat_lt}
use Rattle.mz_base.specs.declared.event.Event.{Event}
use Rattle.mz_base.specs.declared.event.Event.TheVariants as event
use Rattle.keys.specs.declared.command.Command.{Command}
use Rattle.keys.specs.declared.command.Command.TheVariants as command
use Rattle.session_meaning.specs.Steps.{needs}
use Rattle.run_meaning.specs.Jobs.{entry_after, newest, outcome_of}
use Rattle.run_meaning.specs.Numbers.{numbers}
use Rattle.run_meaning.specs.OrderLaws.{RunsAside, keeping, without}
use Rattle.run_meaning.specs.Orders.{all_jobs, all_made, answered, before_step, job_came, jobs_left, made, obeyed, reload_came, reloads_left, run, served, then_closed, unless_reached, users_with, waited}
use Rattle.run_meaning.specs.Plays.{apply}
use Rattle.run_meaning.specs.States.{State, progress_of, start}
use Rattle.run_meaning.specs.Worlds.{World, client_plan, job_at}
use Rattle.run_meaning.proofs.AsideLemmas.{apply-aside}

fold-aside : {A : Type 0} (f g : State → A → State) → ((s : State) (x : A) → without (f s x) ≡ g (without s) x) → (s : State) (xs : List A) → without (fold f s xs) ≡ fold g (without s) xs
fold-aside f g each s [] = refl
fold-aside f g each s (x ∷ xs) = fold-aside f g each (f s x) xs ∙ ap (λ t. fold g t xs) (each s x)

by_test : (b : Bool) (s t u v : State) → without s ≡ u → without t ≡ v → without (if b then s else t) ≡ (if b then u else v)
by_test true s t u v one other = one
by_test false s t u v one other = other

module _ (world : World) (kept : Bool) where
  abbrev here : World
  here = keeping world kept

  made-aside : (s : State) (e : Event) → without (made here s e) ≡ made world (without s) e
  unfolding made
  made-aside s e = by_case (apply here s e) ∙ ap (λ o. unwrap_or o (without s)) (apply-aside world kept s e)
    where
      by_case : (o : Option State) → without (unwrap_or o s) ≡ unwrap_or (option_map without o) (without s)
      by_case None = refl
      by_case (Some t) = refl

  events-aside : (s : State) (events : List Event) → without (all_made here s events) ≡ all_made world (without s) events
  events-aside s events = fold-aside (made here) (made world) made-aside s events

  reload-aside : (s : State) (reload : ℕ) → without (reload_came here s reload) ≡ reload_came world (without s) reload
  reload-aside s reload = events-aside s (map (λ user. event.Dict user reload) (users_with world reload))

  job-aside : (s : State) (job : ℕ) → without (job_came here s job) ≡ job_came world (without s) job
  job-aside s job =
      let e = event.Job job (outcome_of (entry_after s.logs.jobs job (job_at world job))) in
      reload-aside (made here s e) job ∙ ap (λ t. reload_came world t job) (made-aside s e)

  close-aside : (s : State) → without (then_closed here s) ≡ then_closed world (without s)
  close-aside s =
      by_test s.logs.closed s (made here s event.Close) (without s) (made world (without s) event.Close) refl (made-aside s event.Close)

  wait-aside : (wanted : ℕ) (s : State) → without (waited here s wanted) ≡ waited world (without s) wanted
  wait-aside wanted s =
      fold-aside (unless_reached here wanted) (unless_reached world wanted) (λ s job. by_test (nat_lt (newest s.logs.jobs) wanted) (job_came here s job) s (job_came world (without s) job) (without s) (job-aside s job) refl) s (jobs_left world s)

  answer-aside : (c wanted : ℕ) (s : State) → without (answered here c wanted s) ≡ answered world c wanted (without s)
  answer-aside c wanted s =
      let awaits = event.Await c (newest s.logs.jobs) in
      by_test (nat_le wanted (newest s.logs.jobs)) (made here s awaits) (made here (then_closed here s) (event.NotYet c)) (made world (without s) awaits) (made world (then_closed world (without s)) (event.NotYet c)) (made-aside s awaits) (made-aside (then_closed here s) (event.NotYet c) ∙ ap (λ t. made world t (event.NotYet c)) (close-aside s))

  abbrev events_for : ℕ → State → Command → List Event
  events_for c s next =
      before_step (needs (progress_of s c).session next) c (newest s.logs.jobs) ++ event.Step c ∷ []

  command-aside : (c : ℕ) (s : State) (next : Command) → without (obeyed here c s next) ≡ obeyed world c (without s) next
  command-aside c s (command.Await wanted) =
      answer-aside c wanted (waited here s wanted) ∙ ap (answered world c wanted) (wait-aside wanted s)
  command-aside c s (command.Key key) = events-aside s (events_for c s (command.Key key))
  command-aside c s (command.Select n) = events-aside s (events_for c s (command.Select n))
  command-aside c s command.Reset = events-aside s (events_for c s command.Reset)
  command-aside c s (command.ExpectPreedit text) = events-aside s (events_for c s (command.ExpectPreedit text))
  command-aside c s (command.ExpectResult text) = events-aside s (events_for c s (command.ExpectResult text))

  client-aside : (s : State) (c : ℕ) → without (served here s c) ≡ served world (without s) c
  client-aside s c =
      let commands = (client_plan world c).commands in
      made-aside (fold (obeyed here c) s commands) (event.End c)
      ∙ ap (λ t. made world t (event.End c)) (fold-aside (obeyed here c) (obeyed world c) (command-aside c) s commands)

  -- ---- The whole run

  abbrev clients : List ℕ
  clients = numbers (length world.clients)

  served-aside : (s : State) → without (fold (served here) s clients) ≡ fold (served world) (without s) clients
  served-aside s = fold-aside (served here) (served world) client-aside s clients

  jobs-aside : (s : State) → without (all_jobs here s) ≡ all_jobs world (without s)
  jobs-aside s = fold-aside (job_came here) (job_came world) job-aside s (jobs_left world s)

  reloads-aside : (s : State) → without (fold (reload_came here) s (reloads_left world)) ≡ fold (reload_came world) (without s) (reloads_left world)
  reloads-aside s = fold-aside (reload_came here) (reload_came world) reload-aside s (reloads_left world)

  -- a run that begins with a state
  abbrev from : World → State → State
  from world s =
      then_closed world (fold (reload_came world) (all_jobs world (fold (served world) (job_came world s 1) (numbers (length world.clients)))) (reloads_left world))

  from-aside : (s : State) → without (from here s) ≡ from world (without s)
  from-aside s =
      let first = job_came here s 1 in
      let all = fold (served here) first clients in
      let jobs = all_jobs here all in
      close-aside (fold (reload_came here) jobs (reloads_left world))
      ∙ ap (then_closed world) (reloads-aside jobs
      ∙ ap (λ t. fold (reload_came world) t (reloads_left world)) (jobs-aside all
      ∙ ap (all_jobs world) (served-aside first ∙ ap (λ t. fold (served world) t clients) (job-aside s 1))))

  run-aside : without (run here) ≡ from world (without (start here))
  unfolding run
  run-aside = from-aside (start here)

pub runs_aside : RunsAside
runs_aside world kept =
    let same = run-aside world kept ∙ sym (run-aside world world.certificates) in
    record { runs = same; orders = ap (λ (s : State). s.logs.events) same }

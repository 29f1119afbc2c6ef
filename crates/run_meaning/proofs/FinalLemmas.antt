-- A run is complete, and its waits end as the jobs that read tell.
use Rattle.std.proofs.Common.{◌≡◌, refl, sym, subst, ◌∙◌, ⊎_elim, ℕ, zero, suc, ◌+◌, ◌-◌, ◌<◌, ◌≤◌, Bool, true, List, [], ◌∷◌, length, arith, get_or, max}
use Rattle.std.specs.Prelude.{IsOk, IsSomeAnd, IsTrue, fold}
use Rattle.std.specs.List.{list_all, range_with_len}
use Rattle.std.proofs.lemmas.Bool.{and_from, cases_eq, cases_lt}
use Rattle.run_meaning.specs.Jobs.{is_logged}
use Rattle.run_meaning.specs.Numbers.{is_number, numbers}
use Rattle.run_meaning.specs.OrderLaws.{RunIsComplete, WaitsEnd}
use Rattle.run_meaning.specs.Orders.{all_jobs, all_served, job_came, most_reloads, reload_came, reloads_left, run, then_closed}
use Rattle.run_meaning.specs.Plays.{are_entered, has_ended, is_complete}
use Rattle.run_meaning.specs.States.{State, client_at, journal_of, no_progress, start}
use Rattle.run_meaning.specs.Users.{is_entered}
use Rattle.run_meaning.specs.Worlds.{UserPlan, World, client_plan, job_at, no_user, reloads_of}
use Rattle.run_meaning.proofs.MadeLemmas.{run_is_played}
use Rattle.run_meaning.proofs.RunningLemmas.{AllCame, Goes, IsRunning, all-jobs-come, any-grown, begun, came-grown, goes-refl, goes-trans, left-by, number-from, number-parts, number-reads, reload-came}
use Rattle.run_meaning.proofs.ServingLemmas.{AreServed, IsFinished, all-from, serves-from, then-closed}

all-places : {A : Type 0} (p : A → Bool) (none : A) (xs : List A) → ((place : ℕ) → place < length xs → p (get_or xs place none) ≡ true) → list_all p xs ≡ true
all-places p none [] each = refl
all-places p none (x ∷ xs) each =
    and_from (p x) (list_all p xs) (each 0 (omega arith)) (all-places p none xs (λ place less. each (suc place) (omega (arith, less))))

-- ---- The most reloads of a user

abbrev more : ℕ → UserPlan → ℕ
more most user = max most (length user.reloads)

most-grows : (users : List UserPlan) (most : ℕ) → most ≤ fold more most users
most-grows [] most = omega arith
most-grows (user ∷ users) most =
    let rest = most-grows users (more most user) in
    let here : most ≤ max most (length user.reloads) = omega arith in
    omega (arith, here, rest)

most-each : (users : List UserPlan) (most place : ℕ) → place < length users → length (get_or users place no_user).reloads ≤ fold more most users
most-each [] most place less = absurd (omega (arith, less))
most-each (user ∷ users) most zero less =
    let rest = most-grows users (more most user) in
    let here : length user.reloads ≤ max most (length user.reloads) = omega arith in
    omega (arith, here, rest)
most-each (user ∷ users) most (suc place) less = most-each users (more most user) place (omega (arith, less))

most-of : (world : World) (user : ℕ) → IsTrue (is_number world.users user) → length (reloads_of world user) ≤ most_reloads world
most-of world zero there = let parts = number-parts world.users 0 there in absurd (omega (arith, parts.0))
most-of world (suc place) there =
    let high = (number-parts world.users (suc place) there).1 in
    most-each world.users 0 place (omega (arith, high))

module _ (world : World) where
  -- ---- The reloads that are left

  record HasEach (a n : ℕ) (s t : State) : Type 0 where
    pub goes : Goes world 0 s t
    pub jobs : t.logs.jobs ≡ s.logs.jobs
    pub entered : (reload : ℕ) → a ≤ reload → reload < a + n → (user : ℕ) → IsTrue (is_number world.users user) → IsTrue (is_number (reloads_of world user) reload) → IsTrue (is_entered (journal_of t user) reload)

  reloads-all : (n a : ℕ) (s : State) → IsRunning world s → HasEach a n s (fold (reload_came world) s (range_with_len a n))
  reloads-all zero a s running =
      record { goes = goes-refl world 0 s running; jobs = refl; entered = λ reload low high user there numbered. absurd (omega (arith, low, high)) }
  reloads-all (suc n) a s running =
      let t = reload_came world s a in
      let one = reload-came world s a running in
      let u = fold (reload_came world) t (range_with_len (a + 1) n) in
      let rest = reloads-all n (a + 1) t one.goes.running in
      record {
        goes = goes-trans world 0 s t u one.goes rest.goes;
        jobs = rest.jobs ∙ one.jobs;
        entered = λ reload low high user there numbered. ⊎_elim (λ same. any-grown _ (journal_of t user) (journal_of u user) (rest.goes.grown.journals user) (subst (λ r. IsTrue (is_entered (journal_of t user) r)) same (one.entered user there (subst (λ r. IsTrue (is_number (reloads_of world user) r)) (sym same) numbered)))) (λ apart. rest.entered reload (omega (arith, low, apart)) (omega (arith, high)) user there numbered) (cases_eq a reload);
      }

  -- ---- The end of a run

  record IsAtEnd (s : State) : Type 0 where
    pub came : AllCame world s (length world.jobs + 1)
    pub entered : (user reload : ℕ) → IsTrue (is_number world.users user) → IsTrue (is_number (reloads_of world user) reload) → IsTrue (is_entered (journal_of s user) reload)
    pub closed : IsTrue s.logs.closed
    pub clients : length s.clients ≡ length world.clients
    pub finished : (d : ℕ) → IsTrue (is_number world.clients d) → IsFinished world (client_at s d) (client_plan world d).commands

  at-end : IsOk (job_at world 1) → IsAtEnd (run world)
  unfolding run
  at-end reads =
      let s = job_came world (start world) 1 in
      let first = begun world reads (number-reads world.jobs 1 reads) in
      let opens : AreServed world 1 s = record { running = first.running; settled = first.settled; finished = λ d some low. absurd (omega (arith, some, low)); others = λ d high. first.clients d (omega (arith, high)) } in
      let t = all_served world in
      let done_all = serves-from world (length world.clients) 1 s (omega arith) (λ d low high. number-from world.clients d (omega (arith, low)) (omega (arith, high))) opens in
      let u = all_jobs world t in
      let jobs = all-jobs-come world t done_all.running done_all.settled in
      let v = fold (reload_came world) u (reloads_left world) in
      let reloads = reloads-all (most_reloads world - length world.jobs) (length world.jobs + 1) u jobs.goes.running in
      let all_v : AllCame world v (length world.jobs + 1) = λ job some low. came-grown world u v job reloads.goes.grown (jobs.all job some low) in
      let closing = then-closed world v reloads.goes.running all_v in
      let w = then_closed world v in
      let all_w : AllCame world w (length world.jobs + 1) = λ job some low. came-grown world v w job closing.goes.grown (all_v job some low) in
      let rest = goes-trans world 0 t u w jobs.goes (goes-trans world 0 u v w reloads.goes closing.goes) in
      record {
        came = all_w;
        entered = λ user reload there numbered. let parts = number-parts (reloads_of world user) reload numbered in let some = parts.0 in let low = parts.1 in let most = most-of world user there in ⊎_elim (λ early. (all_w reload some early).entered user there numbered) (λ late. any-grown _ (journal_of v user) (journal_of w user) (closing.goes.grown.journals user) (reloads.entered reload late (omega (arith, low, most, late)) user there numbered)) (cases_lt reload (length world.jobs + 1));
        closed = closing.closed;
        clients = rest.running.clients;
        finished = λ d there. let parts = number-parts world.clients d there in let some = parts.0 in let low = parts.1 in subst (λ x. IsFinished world x (client_plan world d).commands) (sym (left-by world t w rest d some)) (done_all.finished d some (omega (arith, low)));
      }

  complete : (s : State) → IsAtEnd s → IsTrue (is_complete world s)
  unfolding client_at
  complete s ends =
      let count_same = ends.clients in
      let logged : list_all (is_logged s.logs.jobs) (numbers (length world.jobs)) ≡ true = all-from (is_logged s.logs.jobs) (length world.jobs) 1 (λ j low high. (ends.came j (omega (arith, low)) (omega (arith, high))).logged) in
      let entered : list_all (are_entered world s) (numbers (length world.users)) ≡ true = all-from (are_entered world s) (length world.users) 1 (λ user low high. all-from (is_entered (journal_of s user)) (length (reloads_of world user)) 1 (λ reload from to. ends.entered user reload (number-from world.users user (omega (arith, low)) (omega (arith, high))) (number-from (reloads_of world user) reload (omega (arith, from)) (omega (arith, to))))) in
      let ended : list_all has_ended s.clients ≡ true = all-places has_ended no_progress s.clients (λ place less. (ends.finished (suc place) (number-from world.clients (suc place) (omega arith) (omega (arith, less, count_same)))).ended) in
      and_from _ _ logged (and_from _ _ entered (and_from _ _ ends.closed ended))

pub run_is_complete : RunIsComplete
run_is_complete world reads =
    subst (λ o. IsSomeAnd o (λ s. IsTrue (is_complete world s))) (sym (run_is_played world)) (complete world (run world) (at-end world reads))

pub waits_end : WaitsEnd
unfolding client_at
waits_end world c reads there = ((at-end world reads).finished c there).ends

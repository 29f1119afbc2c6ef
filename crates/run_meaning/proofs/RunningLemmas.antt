-- What the states of a run have, and how jobs and reloads come.
use Rattle.std.proofs.Common.{◌≡◌, ◌≢◌, refl, sym, ap, subst, ◌∙◌, inl, inr, ◌⊎◌, ⊎_elim, ℕ, zero, suc, ◌+◌, ◌-◌, ◌<◌, ◌≤◌, ◌==◌, Bool, true, false, cond, List, [], ◌∷◌, ◌++◌, Some, None, Result, Ok, Err, length, filter, map, arith, length-append}
use Rattle.std.specs.Prelude.{◌&&◌, ◌||◌, IsOk, IsTrue, fold, if◌then◌else◌, is_ok, nat_le, nat_lt, not}
use Rattle.std.specs.List.{list_any, range_with_len}
use Rattle.std.proofs.lemmas.Bool.{and_from, and_parts, cases_eq, cases_lt, eq-eqb, false≢true, le-leb, leb-true, lt-ltb, ltb-true, not_from_false, or_left, or_right, true≢false}
use Rattle.std.proofs.lemmas.List.{get_or_past, length-map}
use Rattle.std.proofs.lemmas.List.Folds.{list_any-append}
use Rattle.mz_base.specs.Data.{DataLists}
use Rattle.mz_base.specs.declared.event.Event.{Event}
use Rattle.mz_base.specs.declared.event.Event.TheVariants as event
use Rattle.mz_base.specs.declared.event.Outcome.{Outcome}
use Rattle.mz_base.specs.declared.event.Outcome.TheVariants as outcome
use Rattle.mz_base.specs.declared.logs.JobEntry.{JobEntry}
use Rattle.mz_base.specs.declared.logs.JobEntry.TheVariants as job_entry
use Rattle.mz_base.specs.declared.logs.UserEntry.{UserEntry}
use Rattle.mz_base.specs.declared.logs.UserEntry.TheVariants as entry
use Rattle.mz_base.specs.declared.logs.UserLog.{UserLog}
use Rattle.mz_base.specs.declared.status.BadSet.{BadSet}
use Rattle.run_meaning.specs.Deeds.{Deed, done, entries_of}
use Rattle.run_meaning.specs.GrowthLaws.{AreLogsGrown, IsGrown}
use Rattle.run_meaning.specs.Jobs.{entry_after, is_logged, is_outcome, is_passed, is_published, job_of, newest, outcome_of, publishes}
use Rattle.run_meaning.specs.Numbers.{at_number, is_number}
use Rattle.run_meaning.specs.Orders.{all_made, job_came, jobs_left, made, reload_came, unless_reached, waited}
use Rattle.run_meaning.specs.Plays.{apply, did, is_first, is_job_legal, is_reload_legal, play, provided, with_entries}
use Rattle.run_meaning.specs.Solos.{client_of}
use Rattle.run_meaning.specs.States.{State, client_at, is_open, journal_of, begun_with, no_user_log, start, user_log}
use Rattle.run_meaning.specs.Users.{enters, is_entered}
use Rattle.run_meaning.specs.Worlds.{ClientPlan, World, job_at, no_job, reloads_of, user_of}
use Rattle.run_meaning.proofs.EventKinds.{MayCome, after_job, after_reload, by_kind, kept_by_play}
use Rattle.run_meaning.proofs.GrowthLemmas.{entries_at, grown-apply, logs-refl, logs-trans, others_are_left}
use Rattle.run_meaning.proofs.LogLemmas.{any-push, logged-push}
use Rattle.run_meaning.proofs.MadeLemmas.{IsPlayed, made-keeps, made-legal, played-made}
use Rattle.run_meaning.proofs.NumberLemmas.{count, written}

pub any-grown : {A : Type 0} (p : A → Bool) (xs ys : List A) → IsGrown xs ys → list_any p xs ≡ true → list_any p ys ≡ true
any-grown p xs ys grown is = ap (list_any p) grown.1 ∙ list_any-append p xs grown.0 ∙ ap (λ b. b || list_any p grown.0) is

pub number-parts : {A : Type 0} (items : List A) (n : ℕ) → IsTrue (is_number items n) → (0 < n) × (n ≤ length items)
number-parts items n is =
    let parts = and_parts (nat_lt 0 n) (nat_le n (length items)) is in
    (ltb-true 0 n parts.0, leb-true n (length items) parts.1)

pub number-from : {A : Type 0} (items : List A) (n : ℕ) → 0 < n → n ≤ length items → IsTrue (is_number items n)
number-from items n some low = and_from (nat_lt 0 n) (nat_le n (length items)) (lt-ltb 0 n some) (le-leb n (length items) low)

-- a job that reads has a number
pub number-reads : (jobs : List (Result DataLists BadSet)) (j : ℕ) → IsOk (at_number no_job jobs j) → IsTrue (is_number jobs j)
number-reads jobs zero reads = absurd (false≢true reads)
number-reads jobs (suc place) reads =
    ⊎_elim (λ less. number-from jobs (suc place) (omega arith) (omega (arith, less))) (λ past. absurd (false≢true (sym (ap is_ok (get_or_past jobs place no_job past)) ∙ reads))) (cases_lt place (length jobs))

-- ---- What legal events keep

count-entries : (users : List UserLog) (user : ℕ) (entries : List UserEntry) → length (with_entries users user entries) ≡ length users
count-entries users user [] = refl
count-entries users user (first ∷ more) = count users user (record (at_number no_user_log users user) { entries = entries_at users user ++ first ∷ more })

abbrev pub is_coming : Event → Bool
is_coming (event.Job job o) = true
is_coming _ = false

pub job-of-entry : (log : List JobEntry) (job : ℕ) (o : Result DataLists BadSet) → job_of (entry_after log job o) ≡ job
job-of-entry log job (Err bad) = refl
job-of-entry log job (Ok lists) = by_test (is_passed log job)
  where
    by_test : (b : Bool) → job_of (cond b (job_entry.Skipped job (newest log)) (job_entry.Published job)) ≡ job
    by_test true = refl
    by_test false = refl

outcome-same : (o : Outcome) → is_outcome o o ≡ true
outcome-same outcome.Published = refl
outcome-same outcome.Refused = refl
outcome-same outcome.Skipped = refl

module _ (world : World) where
  clients-apply : (s t : State) (e : Event) → apply world s e ≡ Some t → length t.clients ≡ length s.clients
  unfolding did
  clients-apply =
      by_kind world (λ s e t. length t.clients ≡ length s.clients) (λ s job o legal. refl) (λ s legal. refl) (λ s user reload legal. refl) by_did
    where
      by_did : (s : State) (c : ℕ) (e : Event) (deed : Deed) → MayCome world s c e deed → length (did world s c deed e).clients ≡ length s.clients
      by_did s c e deed may = count s.clients c (done (client_at s c) e deed).progress

  pub clients-play : (events : List Event) (s : State) → play world events ≡ Some s → length s.clients ≡ length world.clients
  clients-play events s made =
      kept_by_play world (λ s. length s.clients ≡ length world.clients) (λ s t e here same. clients-apply s t e here ∙ same) (start world) s events made (length-map world.clients (λ (plan : ClientPlan). begun_with plan.commands))

  users-apply : (s t : State) (e : Event) → apply world s e ≡ Some t → length t.logs.users ≡ length s.logs.users
  unfolding did
  users-apply =
      by_kind world (λ s e t. length t.logs.users ≡ length s.logs.users) (λ s job o legal. refl) (λ s legal. refl) (λ s user reload legal. count-entries s.logs.users user (entry.Dict reload ∷ [])) by_did
    where
      by_did : (s : State) (c : ℕ) (e : Event) (deed : Deed) → MayCome world s c e deed → length (did world s c deed e).logs.users ≡ length s.logs.users
      by_did s c e deed may = count-entries s.logs.users (user_of world c) (entries_of (client_at s c) deed)

  jobs-apply : (s t : State) (e : Event) → apply world s e ≡ Some t → is_coming e ≡ false → t.logs.jobs ≡ s.logs.jobs
  unfolding did
  jobs-apply =
      by_kind world (λ s e t. is_coming e ≡ false → t.logs.jobs ≡ s.logs.jobs) (λ s job o legal quiet. absurd (true≢false quiet)) (λ s legal quiet. refl) (λ s user reload legal quiet. refl) by_did
    where
      by_did : (s : State) (c : ℕ) (e : Event) (deed : Deed) → MayCome world s c e deed → is_coming e ≡ false → (did world s c deed e).logs.jobs ≡ s.logs.jobs
      by_did s c e deed may quiet = refl

  longer-apply : (s t : State) (e : Event) → apply world s e ≡ Some t → length t.logs.jobs ≤ length s.logs.jobs + 1
  unfolding did
  longer-apply =
      by_kind world (λ s e t. length t.logs.jobs ≤ length s.logs.jobs + 1) (λ s job o legal. let more : length (s.logs.jobs ++ entry_after s.logs.jobs job (job_at world job) ∷ []) ≡ length s.logs.jobs + 1 = length-append s.logs.jobs (entry_after s.logs.jobs job (job_at world job) ∷ []) in omega (arith, more)) (λ s legal. omega arith) (λ s user reload legal. omega arith) by_did
    where
      by_did : (s : State) (c : ℕ) (e : Event) (deed : Deed) → MayCome world s c e deed → length (did world s c deed e).logs.jobs ≤ length s.logs.jobs + 1
      by_did s c e deed may = omega arith

  pub jobs-made : (s : State) (e : Event) → is_coming e ≡ false → (made world s e).logs.jobs ≡ s.logs.jobs
  jobs-made s e quiet = made-keeps world (λ t. t.logs.jobs ≡ s.logs.jobs) s e refl (λ t here. jobs-apply s t e here quiet)

  -- ---- States of a run

  pub record IsRunning (s : State) : Type 0 where
    pub played : IsPlayed world s
    pub begun : IsTrue (is_open s)
    pub clients : length s.clients ≡ length world.clients
    pub users : length s.logs.users ≡ length world.users

  pub running-made : (s : State) (e : Event) → IsPlayed world s → IsTrue (is_open (made world s e)) → length s.clients ≡ length world.clients → length s.logs.users ≡ length world.users → IsRunning (made world s e)
  running-made s e played begun clients users =
      record {
        played = played-made world s e played;
        begun = begun;
        clients = made-keeps world (λ t. length t.clients ≡ length world.clients) s e clients (λ t here. clients-apply s t e here ∙ clients);
        users = made-keeps world (λ t. length t.logs.users ≡ length world.users) s e users (λ t here. users-apply s t e here ∙ users);
      }

  -- from one state of a run to a later one, between which no client but this one does anything
  pub record Goes (c : ℕ) (s t : State) : Type 0 where
    pub running : IsRunning t
    pub grown : AreLogsGrown s t
    pub others : (d : ℕ) → 0 < d → c ≢ d → client_at t d ≡ client_at s d

  pub grown-made : (s : State) (e : Event) → AreLogsGrown s (made world s e)
  grown-made s e = made-keeps world (λ t. AreLogsGrown s t) s e (logs-refl s) (λ t here. grown-apply world s t e here)

  pub goes-made : (s : State) (e : Event) → IsRunning s → Goes (client_of e) s (made world s e)
  goes-made s e running =
      record {
        running = running-made s e running.played (any-grown (publishes 1) s.logs.jobs (made world s e).logs.jobs (grown-made s e).jobs running.begun) running.clients running.users;
        grown = grown-made s e;
        others = λ d some apart. made-keeps world (λ t. client_at t d ≡ client_at s d) s e refl (λ t here. others_are_left world s t e d here apart);
      }

  pub goes-refl : (c : ℕ) (s : State) → IsRunning s → Goes c s s
  goes-refl c s running = record { running = running; grown = logs-refl s; others = λ d some apart. refl }

  pub goes-trans : (c : ℕ) (s t u : State) → Goes c s t → Goes c t u → Goes c s u
  goes-trans c s t u one other =
      record {
        running = other.running;
        grown = logs-trans s t u one.grown other.grown;
        others = λ d some apart. other.others d some apart ∙ one.others d some apart;
      }

  pub left-by : (s t : State) → Goes 0 s t → (d : ℕ) → 0 < d → client_at t d ≡ client_at s d
  left-by s t goes d some = goes.others d some (λ is. absurd (omega (arith, some, is)))

  pub goes-widen : (c : ℕ) (s t : State) → Goes 0 s t → Goes c s t
  goes-widen c s t goes =
      record { running = goes.running; grown = goes.grown; others = λ d some apart. left-by s t goes d some }

  -- ---- Reloads

  pub entered-made : (s : State) (user reload : ℕ) → IsRunning s → IsTrue (is_number world.users user) → IsTrue (is_number (reloads_of world user) reload) → is_entered (journal_of (made world s (event.Dict user reload)) user) reload ≡ true
  unfolding apply provided journal_of
  entered-made s user reload running there numbered = by_test (is_entered (journal_of s user) reload) refl
    where
      e : Event
      e = event.Dict user reload

      entry_of : UserEntry
      entry_of = entry.Dict reload

      new : UserLog
      new = record (at_number no_user_log s.logs.users user) { entries = entries_at s.logs.users user ++ entry_of ∷ [] }

      after : is_entered (journal_of (after_reload s user reload) user) reload ≡ true
      after =
          let in_logs : IsTrue (is_number s.logs.users user) = subst (λ n. (nat_lt 0 user && nat_le user n) ≡ true) (sym running.users) there in
          ap (λ (log : UserLog). is_entered log.entries reload) (written no_user_log s.logs.users user new in_logs) ∙ any-push (enters reload) (entries_at s.logs.users user) entry_of ∙ or_right (is_entered (entries_at s.logs.users user) reload) (reload == reload) (eq-eqb reload reload refl)

      by_test : (b : Bool) → is_entered (journal_of s user) reload ≡ b → is_entered (journal_of (made world s e) user) reload ≡ true
      by_test true is = any-grown (enters reload) (journal_of s user) (journal_of (made world s e) user) ((grown-made s e).journals user) is
      by_test false is =
          let legal : is_reload_legal world s user reload ≡ true = and_from (is_open s) _ running.begun (and_from (is_number world.users user) _ there (and_from (is_number (reloads_of world user) reload) _ numbered (not_from_false (is_entered (journal_of s user) reload) is))) in
          subst (λ t. is_entered (journal_of t user) reload ≡ true) (sym (made-legal world s (after_reload s user reload) e (ap (λ b. if b then Some (after_reload s user reload) else None) legal))) after

  abbrev reload_events : ℕ → ℕ → ℕ → List Event
  reload_events reload a n =
      map (λ user. event.Dict user reload) (filter (λ user. is_number (reloads_of world user) reload) (range_with_len a n))

  -- the reloads of this number of the users from `a` on
  record HasEntered (reload a n : ℕ) (s t : State) : Type 0 where
    pub goes : Goes 0 s t
    pub jobs : t.logs.jobs ≡ s.logs.jobs
    pub entered : (user : ℕ) → a ≤ user → user < a + n → IsTrue (is_number world.users user) → IsTrue (is_number (reloads_of world user) reload) → IsTrue (is_entered (journal_of t user) reload)

  reloads-come : (reload n a : ℕ) (s : State) → IsRunning s → HasEntered reload a n s (all_made world s (reload_events reload a n))
  reloads-come reload zero a s running =
      record { goes = goes-refl 0 s running; jobs = refl; entered = λ user low high there numbered. absurd (omega (arith, low, high)) }
  reloads-come reload (suc n) a s running =
      by_test (is_number (reloads_of world a) reload) refl (λ t runs. reloads-come reload n (a + 1) t runs)
    where
      by_test : (b : Bool) → is_number (reloads_of world a) reload ≡ b → ((t : State) → IsRunning t → HasEntered reload (a + 1) n t (all_made world t (reload_events reload (a + 1) n))) → HasEntered reload a (suc n) s (all_made world s (map (λ user. event.Dict user reload) (cond b (a ∷ filter (λ user. is_number (reloads_of world user) reload) (range_with_len (a + 1) n)) (filter (λ user. is_number (reloads_of world user) reload) (range_with_len (a + 1) n)))))
      by_test false is goes_on =
          let rest = goes_on s running in
          record {
            goes = rest.goes;
            jobs = rest.jobs;
            entered = λ user low high there numbered. ⊎_elim (λ same. absurd (true≢false (sym numbered ∙ subst (λ n. is_number (reloads_of world n) reload ≡ false) same is))) (λ apart. rest.entered user (omega (arith, low, apart)) (omega (arith, high)) there numbered) (cases_eq a user);
          }
      by_test true is goes_on =
          let t = made world s (event.Dict a reload) in
          let first = goes-made s (event.Dict a reload) running in
          let rest = goes_on t first.running in
          let u = all_made world t (reload_events reload (a + 1) n) in
          record {
            goes = goes-trans 0 s t u first rest.goes;
            jobs = rest.jobs ∙ jobs-made s (event.Dict a reload) refl;
            entered = λ user low high there numbered. ⊎_elim (λ same. any-grown (enters reload) (journal_of t user) (journal_of u user) (rest.goes.grown.journals user) (subst (λ n. is_entered (journal_of t n) reload ≡ true) same (entered-made s a reload running (subst (λ n. IsTrue (is_number world.users n)) (sym same) there) is))) (λ apart. rest.entered user (omega (arith, low, apart)) (omega (arith, high)) there numbered) (cases_eq a user);
          }

  -- the reloads of this number of all users
  pub record HasReloaded (reload : ℕ) (s t : State) : Type 0 where
    pub goes : Goes 0 s t
    pub jobs : t.logs.jobs ≡ s.logs.jobs
    pub entered : (user : ℕ) → IsTrue (is_number world.users user) → IsTrue (is_number (reloads_of world user) reload) → IsTrue (is_entered (journal_of t user) reload)

  pub reload-came : (s : State) (reload : ℕ) → IsRunning s → HasReloaded reload s (reload_came world s reload)
  reload-came s reload running =
      let all = reloads-come reload (length world.users) 1 s running in
      record {
        goes = all.goes;
        jobs = all.jobs;
        entered = λ user there numbered. let parts = number-parts world.users user there in let low = parts.0 in let high = parts.1 in all.entered user (omega (arith, low)) (omega (arith, high)) there numbered;
      }

  -- ---- Jobs

  abbrev pub coming : State → ℕ → Event
  coming s job = event.Job job (outcome_of (entry_after s.logs.jobs job (job_at world job)))

  pub legal-job : (s : State) (job : ℕ) → (is_open s || is_first job (outcome_of (entry_after s.logs.jobs job (job_at world job)))) ≡ true → IsTrue (is_number world.jobs job) → is_logged s.logs.jobs job ≡ false → made world s (coming s job) ≡ after_job world s job (outcome_of (entry_after s.logs.jobs job (job_at world job)))
  unfolding apply provided
  legal-job s job begins there fresh =
      let o = outcome_of (entry_after s.logs.jobs job (job_at world job)) in
      let legal : is_job_legal world s job o ≡ true = and_from (is_open s || is_first job o) _ begins (and_from (is_number world.jobs job) _ there (and_from (not (is_logged s.logs.jobs job)) _ (not_from_false (is_logged s.logs.jobs job) fresh) (outcome-same o))) in
      made-legal world s (after_job world s job o) (event.Job job o) (ap (λ b. if b then Some (after_job world s job o) else None) legal)

  pub logged-made : (s : State) (job : ℕ) → (is_open s || is_first job (outcome_of (entry_after s.logs.jobs job (job_at world job)))) ≡ true → IsTrue (is_number world.jobs job) → is_logged (made world s (coming s job)).logs.jobs job ≡ true
  logged-made s job begins there = by_test (is_logged s.logs.jobs job) refl
    where
      new : JobEntry
      new = entry_after s.logs.jobs job (job_at world job)

      by_test : (b : Bool) → is_logged s.logs.jobs job ≡ b → is_logged (made world s (coming s job)).logs.jobs job ≡ true
      by_test true is = any-grown (λ e. job_of e == job) s.logs.jobs (made world s (coming s job)).logs.jobs (grown-made s (coming s job)).jobs is
      by_test false is =
          subst (λ t. is_logged t.logs.jobs job ≡ true) (sym (legal-job s job begins there is)) (logged-push s.logs.jobs new job ∙ or_right (is_logged s.logs.jobs job) (job_of new == job) (eq-eqb (job_of new) job (job-of-entry s.logs.jobs job (job_at world job))))

  -- a job came, and the reloads of its number
  pub record Came (s : State) (job : ℕ) : Type 0 where
    pub logged : IsTrue (is_logged s.logs.jobs job)
    pub entered : (user : ℕ) → IsTrue (is_number world.users user) → IsTrue (is_number (reloads_of world user) job) → IsTrue (is_entered (journal_of s user) job)

  pub came-grown : (s t : State) (job : ℕ) → AreLogsGrown s t → Came s job → Came t job
  came-grown s t job grown came =
      record {
        logged = any-grown (λ e. job_of e == job) s.logs.jobs t.logs.jobs grown.jobs came.logged;
        entered = λ user there numbered. any-grown (enters job) (journal_of s user) (journal_of t user) (grown.journals user) (came.entered user there numbered);
      }

  -- what a job with its reloads makes, once its event is made
  pub record HasCome (job : ℕ) (s t : State) : Type 0 where
    pub goes : Goes 0 s t
    pub came : Came t job
    pub longer : length t.logs.jobs ≤ length s.logs.jobs + 1

  pub longer-made : (s : State) (e : Event) → length (made world s e).logs.jobs ≤ length s.logs.jobs + 1
  longer-made s e = made-keeps world (λ t. length t.logs.jobs ≤ length s.logs.jobs + 1) s e (omega arith) (λ t here. longer-apply s t e here)

  pub job-came : (s : State) (job : ℕ) → IsRunning s → IsTrue (is_number world.jobs job) → HasCome job s (job_came world s job)
  job-came s job running there =
      let e = coming s job in
      let t = made world s e in
      let first = goes-made s e running in
      let rest = reload-came t job first.running in
      let few = longer-made s e in
      record {
        goes = goes-trans 0 s t (job_came world s job) first rest.goes;
        came = record { logged = subst (λ jobs. is_logged jobs job ≡ true) (sym rest.jobs) (logged-made s job (or_left (is_open s) _ running.begun) there); entered = rest.entered };
        longer = subst (λ (jobs : List JobEntry). length jobs ≤ length s.logs.jobs + 1) (sym rest.jobs) few;
      }

  -- ---- Jobs one after the other

  abbrev pub AllCame : State → ℕ → Type 0
  AllCame s bound = (job : ℕ) → 0 < job → job < bound → Came s job

  -- all jobs below this one came, and the log has no more
  pub record IsUpTo (s : State) (bound : ℕ) : Type 0 where
    pub all : AllCame s bound
    pub below : length s.logs.jobs < bound

  -- the jobs of the log are those up to their count
  abbrev pub IsSettled : State → Type 0
  IsSettled s = AllCame s (length s.logs.jobs + 1)

  pub settled-from : (s : State) (bound : ℕ) → IsUpTo s bound → IsSettled s
  settled-from s bound up job some low = let below = up.below in up.all job some (omega (arith, low, below))

  pub up-to-settled : (s : State) → IsSettled s → IsUpTo s (length s.logs.jobs + 1)
  up-to-settled s settled = record { all = settled; below = omega arith }

  -- other events leave it so
  pub settled-stays : (s t : State) → AreLogsGrown s t → t.logs.jobs ≡ s.logs.jobs → IsSettled s → IsSettled t
  settled-stays s t grown same settled job some low =
      let count_same = ap (λ (jobs : List JobEntry). length jobs) same in
      came-grown s t job grown (settled job some (omega (arith, low, count_same)))

  up-to-next : (s t : State) (a : ℕ) → 0 < a → IsUpTo s a → HasCome a s t → IsUpTo t (a + 1)
  up-to-next s t a some up has =
      let below = up.below in
      let longer = has.longer in
      record {
        all = λ job positive low. ⊎_elim (λ same. subst (λ n. Came t n) same has.came) (λ apart. came-grown s t job has.goes.grown (up.all job positive (omega (arith, low, apart)))) (cases_eq a job);
        below = omega (arith, below, longer);
      }

  pub record HasWaited (wanted bound : ℕ) (s t : State) : Type 0 where
    pub goes : Goes 0 s t
    pub settled : IsSettled t
    pub ends : (nat_lt (newest t.logs.jobs) wanted ≡ false) ⊎ AllCame t bound

  stays-reached : (wanted : ℕ) (s : State) (xs : List ℕ) → nat_lt (newest s.logs.jobs) wanted ≡ false → fold (unless_reached world wanted) s xs ≡ s
  stays-reached wanted s [] reached = refl
  stays-reached wanted s (x ∷ xs) reached =
      ap (λ b. fold (unless_reached world wanted) (if b then job_came world s x else s) xs) reached ∙ stays-reached wanted s xs reached

  waits : (wanted n a : ℕ) (s : State) → IsRunning s → IsUpTo s a → ((j : ℕ) → a ≤ j → j < a + n → IsTrue (is_number world.jobs j)) → HasWaited wanted (a + n) s (fold (unless_reached world wanted) s (range_with_len a n))
  waits wanted zero a s running up numbered =
      record { goes = goes-refl 0 s running; settled = settled-from s a up; ends = inr (λ job some low. up.all job some (omega (arith, low))) }
  waits wanted (suc n) a s running up numbered =
      by_test (nat_lt (newest s.logs.jobs) wanted) refl (λ t runs next. waits wanted n (a + 1) t runs next (λ j low high. numbered j (omega (arith, low)) (omega (arith, high))))
    where
      by_test : (b : Bool) → nat_lt (newest s.logs.jobs) wanted ≡ b → ((t : State) → IsRunning t → IsUpTo t (a + 1) → HasWaited wanted (a + 1 + n) t (fold (unless_reached world wanted) t (range_with_len (a + 1) n))) → HasWaited wanted (a + suc n) s (fold (unless_reached world wanted) (if b then job_came world s a else s) (range_with_len (a + 1) n))
      by_test false is goes_on =
          subst (HasWaited wanted (a + suc n) s) (sym (stays-reached wanted s (range_with_len (a + 1) n) is)) (record { goes = goes-refl 0 s running; settled = settled-from s a up; ends = inl is })
      by_test true is goes_on =
          let below = up.below in
          let t = job_came world s a in
          let has = job-came s a running (numbered a (omega arith) (omega arith)) in
          let rest = goes_on t has.goes.running (up-to-next s t a (omega (arith, below)) up has) in
          record {
            goes = goes-trans 0 s t (fold (unless_reached world wanted) t (range_with_len (a + 1) n)) has.goes rest.goes;
            settled = rest.settled;
            ends = ⊎_elim (λ reached. inl reached) (λ all. inr (λ job some low. all job some (omega (arith, low)))) rest.ends;
          }

  -- the jobs that are left are all there are
  left-numbered : (s : State) (j : ℕ) → length s.logs.jobs + 1 ≤ j → j < length s.logs.jobs + 1 + (length world.jobs - length s.logs.jobs) → IsTrue (is_number world.jobs j)
  left-numbered s j low high = number-from world.jobs j (omega (arith, low)) (omega (arith, low, high))

  abbrev last_job : ℕ
  last_job = length world.jobs

  pub wait-ends : (wanted : ℕ) (s : State) → IsRunning s → IsSettled s → HasWaited wanted (length world.jobs + 1) s (waited world s wanted)
  wait-ends wanted s running settled =
      let has = waits wanted (length world.jobs - length s.logs.jobs) (length s.logs.jobs + 1) s running (up-to-settled s settled) (left-numbered s) in
      record { goes = has.goes; settled = has.settled; ends = ⊎_elim (λ reached. inl reached) (λ all. inr (λ job some low. all job some (omega (arith, low)))) has.ends }

  -- all jobs that are left come
  pub record HasAll (bound : ℕ) (s t : State) : Type 0 where
    pub goes : Goes 0 s t
    pub all : AllCame t bound

  jobs-come : (n a : ℕ) (s : State) → IsRunning s → IsUpTo s a → ((j : ℕ) → a ≤ j → j < a + n → IsTrue (is_number world.jobs j)) → HasAll (a + n) s (fold (job_came world) s (range_with_len a n))
  jobs-come zero a s running up numbered =
      record { goes = goes-refl 0 s running; all = λ job some low. up.all job some (omega (arith, low)) }
  jobs-come (suc n) a s running up numbered =
      let below = up.below in
      let t = job_came world s a in
      let has = job-came s a running (numbered a (omega arith) (omega arith)) in
      let rest = jobs-come n (a + 1) t has.goes.running (up-to-next s t a (omega (arith, below)) up has) (λ j low high. numbered j (omega (arith, low)) (omega (arith, high))) in
      record {
        goes = goes-trans 0 s t (fold (job_came world) t (range_with_len (a + 1) n)) has.goes rest.goes;
        all = λ job some low. rest.all job some (omega (arith, low));
      }

  pub all-jobs-come : (s : State) → IsRunning s → IsSettled s → HasAll (length world.jobs + 1) s (fold (job_came world) s (jobs_left world s))
  all-jobs-come s running settled =
      let has = jobs-come (length world.jobs - length s.logs.jobs) (length s.logs.jobs + 1) s running (up-to-settled s settled) (left-numbered s) in
      record { goes = has.goes; all = λ job some low. has.all job some (omega (arith, low)) }

  -- ---- Job 1

  first-published : (o : Result DataLists BadSet) → IsOk o → entry_after [] 1 o ≡ job_entry.Published 1
  first-published (Ok lists) reads = refl
  first-published (Err bad) reads = absurd (false≢true reads)

  pub record HasBegun (t : State) : Type 0 where
    pub running : IsRunning t
    pub settled : IsSettled t
    pub clients : (d : ℕ) → 0 < d → client_at t d ≡ client_at (start world) d

  pub begun : IsOk (job_at world 1) → IsTrue (is_number world.jobs 1) → HasBegun (job_came world (start world) 1)
  begun reads there =
      let s = start world in
      let e = coming s 1 in
      let t = made world s e in
      let first : entry_after [] 1 (job_at world 1) ≡ job_entry.Published 1 = first-published (job_at world 1) reads in
      let begins : (is_open s || is_first 1 (outcome_of (entry_after [] 1 (job_at world 1)))) ≡ true = ap (λ x. is_first 1 (outcome_of x)) first in
      let is : t ≡ after_job world s 1 (outcome_of (entry_after [] 1 (job_at world 1))) = legal-job s 1 begins there refl in
      let opened : IsTrue (is_open t) = subst (λ u. is_open u ≡ true) (sym is) (ap (λ x. is_published (x ∷ []) 1) first) in
      let users : length s.logs.users ≡ length world.users = length-map world.users user_log in
      let running = running-made s e refl opened (length-map world.clients (λ (plan : ClientPlan). begun_with plan.commands)) users in
      let rest = reload-came t 1 running in
      let few = longer-made s e in
      let count_same = ap (λ (jobs : List JobEntry). length jobs) rest.jobs in
      let came : Came (job_came world s 1) 1 = record { logged = subst (λ jobs. is_logged jobs 1 ≡ true) (sym rest.jobs) (logged-made s 1 begins there); entered = rest.entered } in
      record {
        running = rest.goes.running;
        settled = λ job some low. subst (λ n. Came (job_came world s 1) n) (let one : 1 ≡ job = omega (arith, some, low, few, count_same) in one) came;
        clients = λ d some. left-by t (job_came world s 1) rest.goes d some ∙ made-keeps world (λ u. client_at u d ≡ client_at s d) s e refl (λ u here. others_are_left world s u e d here (λ is_zero. absurd (omega (arith, some, is_zero))));
      }

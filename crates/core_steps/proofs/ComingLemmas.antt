-- What is kept of a run, after a job, a reload or the close of the log; and when each may come.
use Rattle.std.proofs.Common.{◌≡◌, refl, sym, ap, subst, ◌∙◌, ⊎_elim, ℕ, suc, ◌+◌, ◌<◌, ◌≤◌, Bool, true, false, List, [], ◌∷◌, ◌++◌, Some, None, length, get_or, map, set, arith, get_or-set_same, get_or-set_other, length-set}
use Rattle.std.specs.Prelude.{◌&&◌, ◌||◌, IsTrue, Result, if◌then◌else◌, nat_le, nat_lt, not}
use Rattle.std.proofs.lemmas.Bool.{and_left, and_parts, and_right, cases_eq, cases_lt, le-ltb, lt-leb, not_from_true, not-true, true≢false}
use Rattle.std.proofs.lemmas.List.{get_or-map, length-map}
use Rattle.std.proofs.Math.Seq.{map-set_same}
use Rattle.mz_base.specs.Data.{DataLists}
use Rattle.mz_base.specs.declared.event.Event.{Event}
use Rattle.mz_base.specs.declared.event.Event.TheVariants as event
use Rattle.mz_base.specs.declared.event.Outcome.{Outcome}
use Rattle.mz_base.specs.declared.event.Outcome.TheVariants as outcome
use Rattle.mz_base.specs.declared.logs.JobEntry.{JobEntry}
use Rattle.mz_base.specs.declared.logs.UserEntry.{UserEntry}
use Rattle.mz_base.specs.declared.logs.UserEntry.TheVariants as entry
use Rattle.mz_base.specs.declared.logs.UserLog.{UserLog}
use Rattle.mz_base.specs.declared.status.BadSet.{BadSet}
use Rattle.run_meaning.specs.Jobs.{entry_after, is_logged, is_outcome, is_passed, newest, outcome_of}
use Rattle.run_meaning.specs.Numbers.{at_number, is_number}
use Rattle.run_meaning.specs.Plays.{apply, is_close_legal, is_first, is_job_legal, is_reload_legal, provided, with_entries, with_event, with_job}
use Rattle.run_meaning.specs.States.{State, is_open, journal_of, no_user_log}
use Rattle.run_meaning.specs.Users.{is_entered}
use Rattle.run_meaning.specs.Worlds.{Reload, UserPlan, World, job_at, no_job, no_user, reloads_of}
use Rattle.run_meaning.proofs.EventKinds.{after_close, after_job, after_reload}
use Rattle.run_meaning.proofs.LogAnswers.{newest_passes}
use Rattle.run_meaning.proofs.RunningLemmas.{number-parts}
use Rattle.core_steps.specs.Additions.{entered_at}
use Rattle.core_steps.specs.Boards.{IsBoard}
use Rattle.core_steps.specs.Comings.{JobMayCome, ReloadMayCome, with_reload_now}
use Rattle.core_steps.specs.Cores.{now}
use Rattle.core_steps.specs.Kepts.{AreCaught, IsKept, Kept, ran}
use Rattle.core_steps.specs.Standings.{IsCaught}
use Rattle.core_steps.specs.declared.board.Board.{Board}
use Rattle.core_steps.specs.declared.standing.Standing.{Standing}
use Rattle.core_steps.proofs.PlayLemmas.{kept-played}

-- ---- What an event makes

-- a legal one leads to its state
provided-legal : (legal : Bool) (t : State) → legal ≡ true → provided legal t ≡ Some t
unfolding provided
provided-legal legal t is = ap (λ b. if b then Some t else None) is

-- another to none
provided-illegal : (legal : Bool) (t : State) → legal ≡ false → provided legal t ≡ None
unfolding provided
provided-illegal legal t is = ap (λ b. if b then Some t else None) is

module _ (world : World) (s : State) where
  -- a legal one leads on
  pub job-made : (job : ℕ) (o : Outcome) → is_job_legal world s job o ≡ true → apply world s (event.Job job o) ≡ Some (after_job world s job o)
  unfolding apply
  job-made job o is = provided-legal (is_job_legal world s job o) (after_job world s job o) is

  pub close-made : is_close_legal world s ≡ true → apply world s event.Close ≡ Some (after_close s)
  unfolding apply
  close-made is = provided-legal (is_close_legal world s) (after_close s) is

  pub reload-made : (user reload : ℕ) → is_reload_legal world s user reload ≡ true → apply world s (event.Dict user reload) ≡ Some (after_reload s user reload)
  unfolding apply
  reload-made user reload is =
      provided-legal (is_reload_legal world s user reload) (after_reload s user reload) is

  -- another does not
  job-refused : (job : ℕ) (o : Outcome) → is_job_legal world s job o ≡ false → apply world s (event.Job job o) ≡ None
  unfolding apply
  job-refused job o is = provided-illegal (is_job_legal world s job o) (after_job world s job o) is

  pub close-refused : is_close_legal world s ≡ false → apply world s event.Close ≡ None
  unfolding apply
  close-refused is = provided-illegal (is_close_legal world s) (after_close s) is

  reload-refused : (user reload : ℕ) → is_reload_legal world s user reload ≡ false → apply world s (event.Dict user reload) ≡ None
  unfolding apply
  reload-refused user reload is =
      provided-illegal (is_reload_legal world s user reload) (after_reload s user reload) is

-- ---- Jobs

-- what was read of the job at a place
pub job-read : {A : Type 0} (f : A → Result DataLists BadSet) (items : List A) (place job : ℕ) (x : A) → place + 1 ≡ job → place < length (map f items) → x ≡ get_or items place x → f x ≡ at_number no_job (map f items) job
job-read f items place job x number within is =
    let next : suc place ≡ job = omega (arith, number) in
    subst (λ n. f x ≡ at_number no_job (map f items) n) next (ap f is ∙ sym (get_or-map f items place x no_job (subst (λ n. place < n) (length-map items f) within)))

-- the newest published job passes those below it
pub passes : (kept : Kept) (job newest_job : ℕ) → IsKept kept → newest_job ≡ newest kept.state.logs.jobs → is_passed kept.state.logs.jobs job ≡ nat_lt job newest_job
passes kept job newest_job is same =
    newest_passes kept.world kept.state.logs.events kept.state job is.played ∙ ap (nat_lt job) (sym same)

-- 0 is no number
pub zero-is-none : {A : Type 0} (items : List A) (n : ℕ) → (1 ≤ n → ⊥) → is_number items n ≡ false
zero-is-none items n never =
    and_left (nat_lt 0 n) (nat_le n (length items)) (⊎_elim (λ some. absurd (never (omega (arith, some)))) (λ none. le-ltb 0 n none) (cases_lt 0 n))

-- nor is one behind all
pub behind-is-none : {A : Type 0} (items : List A) (n : ℕ) → length items < n → is_number items n ≡ false
behind-is-none items n high = and_right (nat_lt 0 n) (nat_le n (length items)) (lt-leb n (length items) high)

-- the test of two outcomes
outcome-apart : (o p : Outcome) → (o ≡ p → ⊥) → is_outcome o p ≡ false
outcome-apart outcome.Published outcome.Published apart = absurd (apart refl)
outcome-apart outcome.Refused outcome.Refused apart = absurd (apart refl)
outcome-apart outcome.Skipped outcome.Skipped apart = absurd (apart refl)
outcome-apart outcome.Published outcome.Refused apart = refl
outcome-apart outcome.Published outcome.Skipped apart = refl
outcome-apart outcome.Refused outcome.Published apart = refl
outcome-apart outcome.Refused outcome.Skipped apart = refl
outcome-apart outcome.Skipped outcome.Published apart = refl
outcome-apart outcome.Skipped outcome.Refused apart = refl

-- what a legal job says
pub record IsComing (kept : Kept) (job : ℕ) (o : Outcome) : Type 0 where
  pub some : 0 < job
  pub low : job ≤ length kept.world.jobs
  pub fresh : is_logged kept.state.logs.jobs job ≡ false
  pub outcome : outcome_of (entry_after kept.state.logs.jobs job (job_at kept.world job)) ≡ o

-- the test for the same outcome
same-outcome : (o p : Outcome) → is_outcome o p ≡ true → p ≡ o
same-outcome outcome.Published outcome.Published is = refl
same-outcome outcome.Refused outcome.Refused is = refl
same-outcome outcome.Skipped outcome.Skipped is = refl
same-outcome outcome.Published outcome.Refused is = absurd (true≢false (sym is))
same-outcome outcome.Published outcome.Skipped is = absurd (true≢false (sym is))
same-outcome outcome.Refused outcome.Published is = absurd (true≢false (sym is))
same-outcome outcome.Refused outcome.Skipped is = absurd (true≢false (sym is))
same-outcome outcome.Skipped outcome.Published is = absurd (true≢false (sym is))
same-outcome outcome.Skipped outcome.Refused is = absurd (true≢false (sym is))

-- its number is there, it did not come, and the outcome is its own
pub is-coming : (kept : Kept) (job place : ℕ) (o : Outcome) → JobMayCome kept job o place → IsComing kept job o
is-coming kept job place o may =
    let jobs = kept.state.logs.jobs in
    let new = outcome_of (entry_after jobs job (job_at kept.world job)) in
    let first = and_parts (is_open kept.state || is_first job o) (is_number kept.world.jobs job && (not (is_logged jobs job) && is_outcome o new)) may.legal in
    let second = and_parts (is_number kept.world.jobs job) (not (is_logged jobs job) && is_outcome o new) first.1 in
    let third = and_parts (not (is_logged jobs job)) (is_outcome o new) second.1 in
    let parts = number-parts kept.world.jobs job second.0 in
    record { some = parts.0; low = parts.1; fresh = not-true (is_logged jobs job) third.0; outcome = same-outcome o new third.1 }

module _ (world : World) (s : State) (job : ℕ) (o : Outcome) where
  -- why it may not come: job 1 does not stand, there is no such job, it came before, or another outcome is its own
  pub not-begun : (is_open s || is_first job o) ≡ false → apply world s (event.Job job o) ≡ None
  not-begun is = job-refused world s job o (and_left (is_open s || is_first job o) _ is)

  pub no-such-job : is_number world.jobs job ≡ false → apply world s (event.Job job o) ≡ None
  no-such-job is =
      job-refused world s job o (and_right (is_open s || is_first job o) _ (and_left (is_number world.jobs job) _ is))

  pub came-before : is_logged s.logs.jobs job ≡ true → apply world s (event.Job job o) ≡ None
  came-before is =
      job-refused world s job o (and_right (is_open s || is_first job o) _ (and_right (is_number world.jobs job) _ (and_left (not (is_logged s.logs.jobs job)) _ (not_from_true (is_logged s.logs.jobs job) is))))

  pub another-outcome : (o ≡ outcome_of (entry_after s.logs.jobs job (job_at world job)) → ⊥) → apply world s (event.Job job o) ≡ None
  another-outcome apart =
      job-refused world s job o (and_right (is_open s || is_first job o) _ (and_right (is_number world.jobs job) _ (and_right (not (is_logged s.logs.jobs job)) _ (outcome-apart o (outcome_of (entry_after s.logs.jobs job (job_at world job))) apart))))

-- ---- What is kept

-- after a legal event, where the board, the plans and the users are of the state that it made
kept-next : (kept : Kept) (e : Event) (state : State) (board : Board) (users : List Standing) → IsKept kept → apply kept.world kept.state e ≡ Some state → kept.world.users ≡ map (λ (user : Standing). user.plan) users → IsBoard (length kept.world.jobs) state.logs.jobs board → AreCaught state.logs.users users → IsKept (record { world = kept.world; state = state; board = board; users = users })
kept-next kept e state board users is made plans marks caught =
    record {
      world = is.world;
      plans = plans;
      played = kept-played kept.world kept.state state e is.played made;
      board = marks;
      caught = caught;
    }

-- after the close
pub kept-close : (kept : Kept) → IsKept kept → is_close_legal kept.world kept.state ≡ true → IsKept (record kept { state = after_close kept.state })
kept-close kept is legal =
    kept-next kept event.Close (after_close kept.state) kept.board kept.users is (close-made kept.world kept.state legal) is.plans is.board is.caught

-- after a job, whose entry is noted on the board
pub kept-job : (kept : Kept) (job place : ℕ) (o : Outcome) (e : JobEntry) (board : Board) → IsKept kept → JobMayCome kept job o place → e ≡ entry_after kept.state.logs.jobs job (job_at kept.world job) → IsBoard (length kept.world.jobs) (kept.state.logs.jobs ++ e ∷ []) board → IsKept (record kept { state = with_event (with_job kept.state e) (event.Job job o); board = board })
kept-job kept job place o e board is may noted marks =
    let made = job-made kept.world kept.state job o may.legal ∙ ap (λ e. Some (with_event (with_job kept.state e) (event.Job job o))) (sym noted) in
    kept-next kept (event.Job job o) (with_event (with_job kept.state e) (event.Job job o)) board kept.users is made is.plans marks is.caught

-- ---- Reloads

module _ (kept : Kept) (place number : ℕ) (user : Standing) (is : IsKept kept) (at : place + 1 ≡ number) (within : place < length kept.users) where
  -- the place before a number
  number_is : suc place ≡ number
  number_is = omega (arith, at)

  -- the reloads of the user at a place
  pub reloads-at : reloads_of kept.world number ≡ (get_or kept.users place user).plan.reloads
  reloads-at =
      subst (λ n. reloads_of kept.world n ≡ (get_or kept.users place user).plan.reloads) number_is (ap (λ (plans : List UserPlan). (get_or plans place no_user).reloads) is.plans ∙ ap (λ (plan : UserPlan). plan.reloads) (get_or-map (λ (u : Standing). u.plan) kept.users place user no_user within))

  -- and what is kept of its journal
  pub caught-there : IsCaught (journal_of kept.state number) (get_or kept.users place user)
  unfolding journal_of
  caught-there =
      subst (λ n. IsCaught (at_number no_user_log kept.state.logs.users n).entries (get_or kept.users place user)) number_is (is.caught.each place no_user_log user within)

module _ (world : World) (s : State) (user reload : ℕ) where
  -- why it may not come: job 1 does not stand, there is no such user, or the user does not await it
  pub reload-not-begun : is_open s ≡ false → apply world s (event.Dict user reload) ≡ None
  reload-not-begun is = reload-refused world s user reload (and_left (is_open s) _ is)

  pub no-such-user : is_number world.users user ≡ false → apply world s (event.Dict user reload) ≡ None
  no-such-user is =
      reload-refused world s user reload (and_right (is_open s) _ (and_left (is_number world.users user) _ is))

  pub not-awaited : (is_number (reloads_of world user) reload && not (is_entered (journal_of s user) reload)) ≡ false → apply world s (event.Dict user reload) ≡ None
  not-awaited is =
      reload-refused world s user reload (and_right (is_open s) _ (and_right (is_number world.users user) _ is))

-- a reload that may come is one of the user's
reload-number : (kept : Kept) (user reload place : ℕ) → ReloadMayCome kept user reload place → IsTrue (is_number (reloads_of kept.world user) reload)
reload-number kept user reload place may =
    let first = and_parts (is_open kept.state) (is_number kept.world.users user && (is_number (reloads_of kept.world user) reload && not (is_entered (journal_of kept.state user) reload))) may.legal in
    let second = and_parts (is_number kept.world.users user) (is_number (reloads_of kept.world user) reload && not (is_entered (journal_of kept.state user) reload)) first.1 in
    (and_parts (is_number (reloads_of kept.world user) reload) (not (is_entered (journal_of kept.state user) reload)) second.1).0

-- what is kept has a place for it
pub reload-fits : (kept : Kept) (user reload place : ℕ) (standing : Standing) → IsKept kept → ReloadMayCome kept user reload place → standing ≡ get_or kept.users place standing → reload ≤ length standing.entered.items
reload-fits kept user reload place standing is may at =
    let number : place + 1 ≡ user = sym may.number in
    let parts = number-parts (reloads_of kept.world user) reload (reload-number kept user reload place may) in
    let plan : length (reloads_of kept.world user) ≡ length standing.plan.reloads = ap (λ (reloads : List Reload). length reloads) (reloads-at kept place user standing is number may.within) ∙ ap (λ (u : Standing). length u.plan.reloads) (sym at) in
    let places : length standing.entered.items ≡ length standing.plan.reloads = (subst (λ u. IsCaught (journal_of kept.state user) u) (sym at) (caught-there kept place user standing is number may.within)).reloads in
    let low = parts.1 in
    omega (arith, low, plan, places)

-- the state after a reload of the user at a place
abbrev pub reloaded : State → ℕ → ℕ → ℕ → State
reloaded s user reload place =
    with_event (record s { logs = record s.logs { users = entered_at s.logs.users place (entry.Dict reload) } }) (event.Dict user reload)

-- it is the state that a legal reload makes
reloaded-is : (s : State) (user reload place : ℕ) → user ≡ place + 1 → after_reload s user reload ≡ reloaded s user reload place
reloaded-is s user reload place number =
    let next : user ≡ suc place = omega (arith, number) in
    ap (λ users. with_event (record s { logs = record s.logs { users = users } }) (event.Dict user reload)) (ap (λ n. with_entries s.logs.users n (entry.Dict reload ∷ [])) next)

-- what is kept after a reload, which is noted of the user
abbrev pub with_standing : Kept → ℕ → ℕ → ℕ → Standing → Kept
with_standing kept user reload place standing =
    record kept {
      world = record kept.world { users = map (λ (u : Standing). u.plan) (set kept.users place standing) };
      state = reloaded kept.state user reload place;
      users = set kept.users place standing;
    }

module _ (kept : Kept) (user reload place : ℕ) (old standing : Standing) (at : old ≡ get_or kept.users place old) (plan : standing.plan ≡ old.plan) (may : ReloadMayCome kept user reload place) where
  -- no plan changes
  plans-stay : map (λ (u : Standing). u.plan) (set kept.users place standing) ≡ map (λ (u : Standing). u.plan) kept.users
  plans-stay =
      map-set_same (λ (u : Standing). u.plan) kept.users place standing old (plan ∙ ap (λ (u : Standing). u.plan) at)

  -- each user's is of its journal, where the reload is noted of its own
  caught-reload : AreCaught kept.state.logs.users kept.users → ((journal : List UserEntry) → IsCaught journal old → IsCaught (journal ++ entry.Dict reload ∷ []) standing) → AreCaught (entered_at kept.state.logs.users place (entry.Dict reload)) (set kept.users place standing)
  caught-reload caught stays =
      let logs = kept.state.logs.users in
      let log = get_or logs place no_user_log in
      let more : UserLog = record log { entries = log.entries ++ entry.Dict reload ∷ [] } in
      let counts = caught.count in
      let low : place < length logs = (let within = may.within in omega (arith, within, counts)) in
      let own : IsCaught log.entries old = subst (λ u. IsCaught log.entries u) (sym at) (caught.each place no_user_log old may.within) in
      record {
        count = length-set kept.users place standing ∙ (caught.count ∙ sym (length-set logs place more));
        each =
            λ k l u there. ⊎_elim (λ same. subst (λ n. IsCaught (get_or (set logs place more) n l).entries (get_or (set kept.users place standing) n u)) same (subst (λ (x : UserLog). IsCaught x.entries (get_or (set kept.users place standing) place u)) (sym (get_or-set_same logs place more l low)) (subst (λ x. IsCaught more.entries x) (sym (get_or-set_same kept.users place standing u may.within)) (stays log.entries own)))) (λ apart. subst (λ (x : UserLog). IsCaught x.entries (get_or (set kept.users place standing) k u)) (sym (get_or-set_other logs place k more l (λ same. apart (sym same)))) (subst (λ x. IsCaught (get_or logs k l).entries x) (sym (get_or-set_other kept.users place k standing u (λ same. apart (sym same)))) (caught.each k l u (subst (λ n. k < n) (length-set kept.users place standing) there)))) (cases_eq place k);
      }

  -- the run is kept
  pub kept-reload : IsKept kept → ((journal : List UserEntry) → IsCaught journal old → IsCaught (journal ++ entry.Dict reload ∷ []) standing) → IsKept (with_standing kept user reload place standing)
  kept-reload is stays =
      let made = reload-made kept.world kept.state user reload may.legal ∙ ap (λ s. Some s) (reloaded-is kept.state user reload place may.number) in
      let next = kept-next kept (event.Dict user reload) (reloaded kept.state user reload place) kept.board (set kept.users place standing) is made (is.plans ∙ sym plans-stay) is.board (caught-reload is.caught stays) in
      subst (λ plans. IsKept (record { world = record kept.world { users = plans }; state = reloaded kept.state user reload place; board = kept.board; users = set kept.users place standing })) (is.plans ∙ sym plans-stay) next

  -- and what was done is the reload
  pub ran-reload : IsKept kept → ran (with_standing kept user reload place standing) ≡ with_reload_now (ran kept) user reload
  ran-reload is =
      ap (λ plans. record { world = record kept.world { users = plans }; state = reloaded kept.state user reload place }) (plans-stay ∙ sym is.plans)
      ∙ ap (λ s. now (ran kept) s) (sym (reloaded-is kept.state user reload place may.number))

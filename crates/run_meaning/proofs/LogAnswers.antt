-- What the job log and the journals of a play have.
use Rattle.std.proofs.Common.{◌≡◌, refl, sym, ap, subst, ◌∙◌, ⊎_elim, ℕ, zero, suc, ◌+◌, ◌≤◌, ◌==◌, Bool, true, false, cond, List, [], ◌∷◌, ◌++◌, Some, length, get_or, map, arith, count_by}
use Rattle.std.specs.Prelude.{◌&&◌, ◌||◌, IsTrue, nat_lt, not}
use Rattle.std.specs.List.{list_all}
use Rattle.std.proofs.lemmas.Bool.{and_parts, eqb-true, false≢true, lt-ltb, ltb-true, not-true}
use Rattle.mz_base.specs.declared.event.Event.{Event}
use Rattle.mz_base.specs.declared.event.Outcome.{Outcome}
use Rattle.mz_base.specs.declared.logs.JobEntry.{JobEntry}
use Rattle.mz_base.specs.declared.logs.UserEntry.{UserEntry}
use Rattle.mz_base.specs.declared.logs.UserEntry.TheVariants as entry
use Rattle.mz_base.specs.declared.logs.UserLog.{UserLog}
use Rattle.run_meaning.specs.Deeds.{Deed, Awaits, Ends, FindsNone, Learns, Steps, Takes, entries_of}
use Rattle.run_meaning.specs.Jobs.{entry_after, is_logged, is_outcome, is_passed, job_of, newest, outcome_of, publishes}
use Rattle.run_meaning.specs.LogLaws.{ClosedHasEach, JobsComeOnce, NewestIsHighest, NewestPasses, PublishedRead, PublishedRise, ReloadsComeOnce}
use Rattle.run_meaning.specs.Numbers.{is_number, numbers}
use Rattle.run_meaning.specs.Plays.{apply, did, is_first, is_job_legal, is_reload_legal, play, with_entries}
use Rattle.run_meaning.specs.States.{Client, State, client_at, is_open, journal_of, no_user_log, start, user_log}
use Rattle.run_meaning.specs.Users.{enters, is_entered}
use Rattle.run_meaning.specs.Worlds.{UserPlan, World, job_at, reloads_of, user_of}
use Rattle.run_meaning.proofs.EventKinds.{MayCome, after_close, after_job, after_reload, by_kind, kept_by_play}
use Rattle.run_meaning.proofs.GrowthLemmas.{all-numbers, closed_is_full, entries-with, entries_at}
use Rattle.run_meaning.proofs.LogLemmas.{IsSoundLog, count-once, count-push, count-some, passed-by, published-passes, published-push, sound-push, sound-start}

-- ---- What a legal job says

pub record IsNewJob (world : World) (s : State) (job : ℕ) : Type 0 where
  pub number : IsTrue (is_number world.jobs job)
  pub fresh : is_logged s.logs.jobs job ≡ false

pub new-job : (world : World) (s : State) (job : ℕ) (o : Outcome) → IsTrue (is_job_legal world s job o) → IsNewJob world s job
new-job world s job o legal =
    let first = and_parts (is_open s || is_first job o) (is_number world.jobs job && (not (is_logged s.logs.jobs job) && is_outcome o (outcome_of (entry_after s.logs.jobs job (job_at world job))))) legal in
    let second = and_parts (is_number world.jobs job) (not (is_logged s.logs.jobs job) && is_outcome o (outcome_of (entry_after s.logs.jobs job (job_at world job)))) first.1 in
    let third = and_parts (not (is_logged s.logs.jobs job)) (is_outcome o (outcome_of (entry_after s.logs.jobs job (job_at world job)))) second.1 in
    record { number = second.0; fresh = not-true (is_logged s.logs.jobs job) third.0 }

-- ---- The job log of a play

module _ (world : World) where
  pub sound-apply : (s t : State) (e : Event) → apply world s e ≡ Some t → IsSoundLog world s.logs.jobs → IsSoundLog world t.logs.jobs
  unfolding did
  sound-apply =
      by_kind world (λ s e t. IsSoundLog world s.logs.jobs → IsSoundLog world t.logs.jobs) (λ s job o legal sound. sound-push world s.logs.jobs job sound (new-job world s job o legal).fresh (job_at world job) refl) (λ s legal sound. sound) (λ s user reload legal sound. sound) by_did
    where
      by_did : (s : State) (c : ℕ) (e : Event) (deed : Deed) → MayCome world s c e deed → IsSoundLog world s.logs.jobs → IsSoundLog world (did world s c deed e).logs.jobs
      by_did s c e deed may sound = sound

  pub sound-play : (events : List Event) (s : State) → play world events ≡ Some s → IsSoundLog world s.logs.jobs
  sound-play events s made =
      kept_by_play world (λ s. IsSoundLog world s.logs.jobs) sound-apply (start world) s events made (sound-start world)

  -- a closed log has job 1
  abbrev pub BeginsIfClosed : State → Type 0
  BeginsIfClosed s = IsTrue s.logs.closed → IsTrue (is_open s)

  begins-apply : (s t : State) (e : Event) → apply world s e ≡ Some t → BeginsIfClosed s → BeginsIfClosed t
  unfolding did
  begins-apply =
      by_kind world (λ s e t. BeginsIfClosed s → BeginsIfClosed t) by_job (λ s legal begins is. (and_parts (is_open s) (list_all (is_logged s.logs.jobs) (numbers (length world.jobs)) && not s.logs.closed) legal).0) (λ s user reload legal begins. begins) by_did
    where
      by_job : (s : State) (job : ℕ) (o : Outcome) → IsTrue (is_job_legal world s job o) → BeginsIfClosed s → BeginsIfClosed (after_job world s job o)
      by_job s job o legal begins is =
          published-push s.logs.jobs (entry_after s.logs.jobs job (job_at world job)) 1 ∙ ap (λ b. b || publishes 1 (entry_after s.logs.jobs job (job_at world job))) (begins is)

      by_did : (s : State) (c : ℕ) (e : Event) (deed : Deed) → MayCome world s c e deed → BeginsIfClosed s → BeginsIfClosed (did world s c deed e)
      by_did s c e deed may begins = begins

  pub begins-play : (events : List Event) (s : State) → play world events ≡ Some s → BeginsIfClosed s
  begins-play events s made = kept_by_play world BeginsIfClosed begins-apply (start world) s events made (λ is. absurd (false≢true is))

pub published_rise : PublishedRise
published_rise world events s made = (sound-play world events s made).rise

pub newest_passes : NewestPasses
newest_passes world events s job made = by_test (is_passed s.logs.jobs job) refl
  where
    sound : IsSoundLog world s.logs.jobs
    sound = sound-play world events s made

    by_test : (b : Bool) → is_passed s.logs.jobs job ≡ b → b ≡ nat_lt job (newest s.logs.jobs)
    by_test true is =
        let found = passed-by s.logs.jobs job is in
        let high = sound.bounded found.0 found.1 in
        let less = found.2 in
        sym (lt-ltb job (newest s.logs.jobs) (omega (arith, high, less)))
    by_test false is = by_order (nat_lt job (newest s.logs.jobs)) refl
      where
        by_order : (b : Bool) → nat_lt job (newest s.logs.jobs) ≡ b → false ≡ b
        by_order false high = refl
        by_order true high =
            let above = ltb-true job (newest s.logs.jobs) high in
            ⊎_elim (λ zero_yet. absurd (omega (arith, above, zero_yet))) (λ stands. sym is ∙ published-passes s.logs.jobs job (newest s.logs.jobs) stands above) sound.stands

pub published_read : PublishedRead
published_read world events s job made = (sound-play world events s made).reads job

pub newest_is_highest : NewestIsHighest
newest_is_highest world events s made is =
    let sound = sound-play world events s made in
    let first = sound.bounded 1 (begins-play world events s made is) in
    record {
      published = ⊎_elim (λ zero_yet. absurd (omega (arith, first, zero_yet))) (λ stands. stands) sound.stands;
      highest = λ other there reads. sound.highest other (all-numbers (is_logged s.logs.jobs) world.jobs other (closed_is_full world events s made is) there) reads;
    }

pub jobs_come_once : JobsComeOnce
jobs_come_once world events s job made = (sound-play world events s made).once job

pub closed_has_each : ClosedHasEach
closed_has_each world events s job made is there =
    let few = (sound-play world events s made).once job in
    let some = count-some (λ (e : JobEntry). job_of e == job) s.logs.jobs (all-numbers (is_logged s.logs.jobs) world.jobs job (closed_is_full world events s made is) there) in
    omega (arith, few, some)

-- ---- Reloads

abbrev IsOnce : List UserEntry → ℕ → Type 0
IsOnce journal reload = count_by (enters reload) journal ≤ 1

-- an entry that enters no reload
once-quiet : (journal : List UserEntry) (e : UserEntry) (reload : ℕ) → enters reload e ≡ false → IsOnce journal reload → IsOnce (journal ++ e ∷ []) reload
once-quiet journal e reload quiet few =
    let more : count_by (enters reload) (journal ++ e ∷ []) ≡ count_by (enters reload) journal + 0 = count-push (enters reload) journal e ∙ ap (λ b. count_by (enters reload) journal + cond b 1 0) quiet in
    omega (arith, more, few)

once-deed : (client : Client) (deed : Deed) (users : List UserLog) (user other reload : ℕ) → IsOnce (entries_at users other) reload → IsOnce (entries_at (with_entries users user (entries_of client deed)) other) reload
once-deed client Learns users user other reload few =
    ⊎_elim (λ same. subst (λ journal. IsOnce journal reload) (sym same) few) (λ more. subst (λ journal. IsOnce journal reload) (sym more.1) (once-quiet (entries_at users other) _ reload refl few)) (entries-with users user (entries_of client Learns) other)
once-deed client Ends users user other reload few =
    ⊎_elim (λ same. subst (λ journal. IsOnce journal reload) (sym same) few) (λ more. subst (λ journal. IsOnce journal reload) (sym more.1) (once-quiet (entries_at users other) _ reload refl few)) (entries-with users user (entries_of client Ends) other)
once-deed client (Takes pinned entries) users user other reload few = few
once-deed client (Awaits job) users user other reload few = few
once-deed client (FindsNone newest) users user other reload few = few
once-deed client Steps users user other reload few = few

module _ (world : World) where
  abbrev AreOnce : State → Type 0
  AreOnce s = (user reload : ℕ) → IsOnce (journal_of s user) reload

  once-reload : (s : State) (user reload : ℕ) → IsTrue (is_reload_legal world s user reload) → AreOnce s → AreOnce (after_reload s user reload)
  unfolding journal_of
  once-reload s user reload legal once other r =
      let first = and_parts (is_open s) (is_number world.users user && (is_number (reloads_of world user) reload && not (is_entered (entries_at s.logs.users user) reload))) legal in
      let second = and_parts (is_number world.users user) (is_number (reloads_of world user) reload && not (is_entered (entries_at s.logs.users user) reload)) first.1 in
      let third = and_parts (is_number (reloads_of world user) reload) (not (is_entered (entries_at s.logs.users user) reload)) second.1 in
      let fresh = not-true (is_entered (entries_at s.logs.users user) reload) third.1 in
      let few : IsOnce (entries_at s.logs.users other) r = once other r in
      ⊎_elim (λ same. subst (λ journal. IsOnce journal r) (sym same) few) (λ more. subst (λ journal. IsOnce journal r) (sym more.1) (count-once (enters r) (entries_at s.logs.users other) (entry.Dict reload) few (λ here. subst (λ n. is_entered (entries_at s.logs.users other) n ≡ false) (eqb-true reload r here) (subst (λ u. is_entered (entries_at s.logs.users u) reload ≡ false) more.0 fresh)))) (entries-with s.logs.users user (entry.Dict reload ∷ []) other)

  once-did : (s : State) (c : ℕ) (e : Event) (deed : Deed) → AreOnce s → AreOnce (did world s c deed e)
  unfolding journal_of did
  once-did s c e deed once other reload =
      once-deed (client_at s c) deed s.logs.users (user_of world c) other reload (once other reload)

  same-job : (s : State) (job : ℕ) (o : Outcome) (user : ℕ) → journal_of (after_job world s job o) user ≡ journal_of s user
  unfolding journal_of
  same-job s job o user = refl

  same-close : (s : State) (user : ℕ) → journal_of (after_close s) user ≡ journal_of s user
  unfolding journal_of
  same-close s user = refl

  once-apply : (s t : State) (e : Event) → apply world s e ≡ Some t → AreOnce s → AreOnce t
  once-apply =
      by_kind world (λ s e t. AreOnce s → AreOnce t) (λ s job o legal once user reload. subst (λ journal. IsOnce journal reload) (sym (same-job s job o user)) (once user reload)) (λ s legal once user reload. subst (λ journal. IsOnce journal reload) (sym (same-close s user)) (once user reload)) once-reload (λ s c e deed may once. once-did s c e deed once)

-- no journal has an entry at first
empty-at : (plans : List UserPlan) (place : ℕ) → (get_or (map user_log plans) place no_user_log).entries ≡ []
empty-at [] place = refl
empty-at (plan ∷ plans) zero = refl
empty-at (plan ∷ plans) (suc place) = empty-at plans place

pub empty-journals : (world : World) (user : ℕ) → journal_of (start world) user ≡ []
unfolding journal_of
empty-journals world zero = refl
empty-journals world (suc place) = empty-at world.users place

pub reloads_come_once : ReloadsComeOnce
reloads_come_once world events s user reload made =
    kept_by_play world (AreOnce world) (once-apply world) (start world) s events made (λ u r. subst (λ journal. IsOnce journal r) (sym (empty-journals world u)) (let none : 0 ≤ 1 = omega arith in none)) user reload

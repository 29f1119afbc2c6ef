-- What an event leaves as it was, and what grows.
use Rattle.std.proofs.Common.{◌≡◌, ◌≢◌, refl, sym, ap, subst, ◌∙◌, inl, inr, ◌⊎◌, ⊎_elim, ℕ, zero, suc, ◌+◌, ◌<◌, ◌≤◌, Bool, true, false, List, [], ◌∷◌, ◌++◌, Some, length, arith, append_assoc, append-nil}
use Rattle.std.specs.Prelude.{◌&&◌, ◌||◌, IsTrue, not, nat_le, nat_lt}
use Rattle.std.specs.List.{list_all, range_with_len}
use Rattle.std.proofs.lemmas.Bool.{and_cases, and_parts, cases_eq, false≢true, leb-false, leb-true, ltb-false, ltb-true, not-true, true≢false}
use Rattle.std.proofs.lemmas.List.{set_past}
use Rattle.mz_base.specs.declared.event.Event.{Event}
use Rattle.mz_base.specs.declared.event.Event.TheVariants as event
use Rattle.mz_base.specs.declared.event.Outcome.{Outcome}
use Rattle.mz_base.specs.declared.logs.UserEntry.{UserEntry}
use Rattle.mz_base.specs.declared.logs.UserEntry.TheVariants as entry
use Rattle.mz_base.specs.declared.logs.UserLog.{UserLog}
use Rattle.run_meaning.specs.Deeds.{Deed, certificate_of, done, entries_of}
use Rattle.run_meaning.specs.GrowthLaws.{AreLogsGrown, ClosedIsFull, ClosedStays, IsFullIfClosed, IsGrown, IsStillClosed, LogsGrow, OthersAreLeft}
use Rattle.run_meaning.specs.Jobs.{entry_after, is_logged, is_outcome, outcome_of}
use Rattle.run_meaning.specs.Numbers.{at_number, is_number, numbers, with_number}
use Rattle.run_meaning.specs.Plays.{apply, did, is_close_legal, is_first, is_job_legal, play_from, with_entries}
use Rattle.run_meaning.specs.Solos.{client_of}
use Rattle.run_meaning.specs.States.{State, client_at, is_open, journal_of, no_client_log, no_progress, no_user_log, start}
use Rattle.run_meaning.specs.Worlds.{World, job_at, user_of}
use Rattle.run_meaning.proofs.CertificateLemmas.{certificate-client, certified-others}
use Rattle.run_meaning.proofs.EventKinds.{IsDeed, after_close, after_job, after_reload, awaiting, by_kind, ending, finding_none, kept_by_play, learning, stepping, taking}
use Rattle.run_meaning.proofs.NumberLemmas.{others, written}

-- ---- Other clients

pub client-is : (world : World) (s : State) (c : ℕ) (e : Event) (given : Bool) (deed : Deed) → IsDeed world s c e given deed → client_of e ≡ c
client-is world s c e given deed learning = refl
client-is world s c e given deed (taking job) = refl
client-is world s c e given deed stepping = refl
client-is world s c e given deed (awaiting job) = refl
client-is world s c e given deed finding_none = refl
client-is world s c e given deed ending = refl

pub others-did : (world : World) (s : State) (c other : ℕ) (e : Event) (deed : Deed) → c ≢ other → client_at (did world s c deed e) other ≡ client_at s other
unfolding did client_at
others-did world s c other e deed apart =
    let client = client_at s c in
    let after = done client e deed in
    let progress = others no_progress s.clients c other after.progress apart in
    let log = others no_client_log s.logs.clients c other after.log apart in
    let certificates = certified-others other s.logs.certificates (certificate_of client deed) (λ m is same. apart (sym (certificate-client client deed m is) ∙ same)) in
    λ i. record { number = other; progress = progress i; log = log i; certificates = certificates i }

pub left-job : (world : World) (s : State) (job : ℕ) (o : Outcome) (c : ℕ) → client_at (after_job world s job o) c ≡ client_at s c
unfolding client_at
left-job world s job o c = refl

pub left-close : (s : State) (c : ℕ) → client_at (after_close s) c ≡ client_at s c
unfolding client_at
left-close s c = refl

pub left-reload : (s : State) (user reload c : ℕ) → client_at (after_reload s user reload) c ≡ client_at s c
unfolding client_at
left-reload s user reload c = refl

pub others_are_left : OthersAreLeft
others_are_left world s t e c made =
    by_kind world (λ s e t. (c : ℕ) → client_of e ≢ c → client_at t c ≡ client_at s c) (λ s job o legal c apart. left-job world s job o c) (λ s legal c apart. left-close s c) (λ s user reload legal c apart. left-reload s user reload c) (λ s d e deed may c apart. others-did world s d c e deed (λ same. apart (client-is world s d e may.given deed may.is ∙ same))) s t e made c

-- ---- What grows

pub grown-refl : {A : Type 0} (xs : List A) → IsGrown xs xs
grown-refl xs = ([], sym (append-nil xs))

pub grown-trans : {A : Type 0} (xs ys zs : List A) → IsGrown xs ys → IsGrown ys zs → IsGrown xs zs
grown-trans xs ys zs one other =
    (one.0 ++ other.0, other.1 ∙ ap (λ front. front ++ other.0) one.1 ∙ append_assoc xs one.0 other.0)

-- nothing is written past the end
pub unwritten : {A : Type 0} (items : List A) (number : ℕ) (item : A) → is_number items number ≡ false → with_number items number item ≡ items
unwritten items zero item past = refl
unwritten items (suc place) item past =
    set_past items place item (⊎_elim (λ low. absurd (let at : suc place ≤ 0 = ltb-false 0 (suc place) low in omega (arith, at))) (λ high. let over : length items < suc place = leb-false (suc place) (length items) high in omega (arith, over)) (and_cases (nat_lt 0 (suc place)) (nat_le (suc place) (length items)) past))

abbrev pub entries_at : List UserLog → ℕ → List UserEntry
entries_at users user = (at_number no_user_log users user).entries

-- a journal after further entries of a user: as it was, or, of this user, with these
abbrev pub IsWith : List UserLog → List UserLog → ℕ → List UserEntry → ℕ → Type 0
IsWith users after user entries other =
    (entries_at after other ≡ entries_at users other) ⊎ ((user ≡ other) × (entries_at after other ≡ entries_at users other ++ entries))

pub entries-with : (users : List UserLog) (user : ℕ) (entries : List UserEntry) (other : ℕ) → IsWith users (with_entries users user entries) user entries other
entries-with users user [] other = inl refl
entries-with users user (first ∷ more) other = ⊎_elim here there (cases_eq user other)
  where
    new : UserLog
    new = record (at_number no_user_log users user) { entries = entries_at users user ++ first ∷ more }

    by_number : (b : Bool) → is_number users user ≡ b → IsWith users (with_number users user new) user (first ∷ more) user
    by_number true is = inr (refl, ap (λ (log : UserLog). log.entries) (written no_user_log users user new is))
    by_number false is = inl (ap (λ us. entries_at us user) (unwritten users user new is))

    here : user ≡ other → IsWith users (with_number users user new) user (first ∷ more) other
    here same = subst (IsWith users (with_number users user new) user (first ∷ more)) same (by_number (is_number users user) refl)

    there : (user ≡ other → ⊥) → IsWith users (with_number users user new) user (first ∷ more) other
    there apart = inl (ap (λ (log : UserLog). log.entries) (others no_user_log users user other new apart))

grown-entries : (users : List UserLog) (user : ℕ) (entries : List UserEntry) (other : ℕ) → IsGrown (entries_at users other) (entries_at (with_entries users user entries) other)
grown-entries users user entries other =
    ⊎_elim (λ same. ([], same ∙ sym (append-nil (entries_at users other)))) (λ more. (entries, more.1)) (entries-with users user entries other)

grown-job : (world : World) (s : State) (job : ℕ) (o : Outcome) → AreLogsGrown s (after_job world s job o)
unfolding journal_of
grown-job world s job o =
    record {
      jobs = (entry_after s.logs.jobs job (job_at world job) ∷ [], refl);
      journals = λ user. grown-refl (entries_at s.logs.users user);
      events = (event.Job job o ∷ [], refl);
    }

grown-close : (s : State) → AreLogsGrown s (after_close s)
unfolding journal_of
grown-close s =
    record { jobs = grown-refl s.logs.jobs; journals = λ user. grown-refl (entries_at s.logs.users user); events = (event.Close ∷ [], refl) }

grown-reload : (s : State) (user reload : ℕ) → AreLogsGrown s (after_reload s user reload)
unfolding journal_of
grown-reload s user reload =
    record { jobs = grown-refl s.logs.jobs; journals = λ other. grown-entries s.logs.users user (entry.Dict reload ∷ []) other; events = (event.Dict user reload ∷ [], refl) }

grown-did : (world : World) (s : State) (c : ℕ) (e : Event) (deed : Deed) → AreLogsGrown s (did world s c deed e)
unfolding journal_of did
grown-did world s c e deed =
    record { jobs = grown-refl s.logs.jobs; journals = λ other. grown-entries s.logs.users (user_of world c) (entries_of (client_at s c) deed) other; events = (e ∷ [], refl) }

pub grown-apply : (world : World) (s t : State) (e : Event) → apply world s e ≡ Some t → AreLogsGrown s t
grown-apply world =
    by_kind world (λ s e t. AreLogsGrown s t) (λ s job o legal. grown-job world s job o) (λ s legal. grown-close s) (λ s user reload legal. grown-reload s user reload) (λ s c e deed may. grown-did world s c e deed)

pub logs-refl : (s : State) → AreLogsGrown s s
logs-refl s =
    record { jobs = grown-refl s.logs.jobs; journals = λ user. grown-refl (journal_of s user); events = grown-refl s.logs.events }

pub logs-trans : (s t u : State) → AreLogsGrown s t → AreLogsGrown t u → AreLogsGrown s u
logs-trans s t u one other =
    record {
      jobs = grown-trans s.logs.jobs t.logs.jobs u.logs.jobs one.jobs other.jobs;
      journals = λ user. grown-trans (journal_of s user) (journal_of t user) (journal_of u user) (one.journals user) (other.journals user);
      events = grown-trans s.logs.events t.logs.events u.logs.events one.events other.events;
    }

pub logs_grow : LogsGrow
logs_grow world s t events made =
    kept_by_play world (λ u. AreLogsGrown s u) (λ u v e here grown. logs-trans s u v grown (grown-apply world u v e here)) s t events made (logs-refl s)

-- ---- A closed log

-- what passes at all numbers passes at each
pub all-range : (p : ℕ → Bool) (a n j : ℕ) → list_all p (range_with_len a n) ≡ true → a ≤ j → j < a + n → p j ≡ true
all-range p a zero j all from to = absurd (omega (arith, from, to))
all-range p a (suc n) j all from to =
    let parts = and_parts (p a) (list_all p (range_with_len (a + 1) n)) all in
    ⊎_elim (λ same. subst (λ k. p k ≡ true) same parts.0) (λ apart. all-range p (a + 1) n j parts.1 (omega (arith, from, apart)) (omega (arith, to))) (cases_eq a j)

pub all-numbers : {A : Type 0} (p : ℕ → Bool) (items : List A) (j : ℕ) → list_all p (numbers (length items)) ≡ true → IsTrue (is_number items j) → p j ≡ true
all-numbers p items j all is =
    let parts = and_parts (nat_lt 0 j) (nat_le j (length items)) is in
    let low : 0 < j = ltb-true 0 j parts.0 in
    let high : j ≤ length items = leb-true j (length items) parts.1 in
    all-range p 1 (length items) j all (omega (arith, low)) (omega (arith, high))

-- a closed log stays, and is full
pub record StaysClosed (world : World) (s t : State) : Type 0 where
  pub still : IsTrue s.logs.closed → IsStillClosed s t
  pub full : IsFullIfClosed world t

module _ (world : World) where
  abbrev Closes : State → Event → State → Type 0
  Closes s e t = IsFullIfClosed world s → StaysClosed world s t

  -- no job comes after the close
  no-job : (s : State) (job : ℕ) (o : Outcome) → IsTrue (is_job_legal world s job o) → IsFullIfClosed world s → IsTrue s.logs.closed → ⊥
  no-job s job o legal full is =
      let first = and_parts (is_open s || is_first job o) (is_number world.jobs job && (not (is_logged s.logs.jobs job) && is_outcome o (outcome_of (entry_after s.logs.jobs job (job_at world job))))) legal in
      let second = and_parts (is_number world.jobs job) (not (is_logged s.logs.jobs job) && is_outcome o (outcome_of (entry_after s.logs.jobs job (job_at world job)))) first.1 in
      let third = and_parts (not (is_logged s.logs.jobs job)) (is_outcome o (outcome_of (entry_after s.logs.jobs job (job_at world job)))) second.1 in
      let there = all-numbers (is_logged s.logs.jobs) world.jobs job (full is) second.0 in
      true≢false (sym there ∙ not-true (is_logged s.logs.jobs job) third.0)

  closed-job : (s : State) (job : ℕ) (o : Outcome) → IsTrue (is_job_legal world s job o) → Closes s (event.Job job o) (after_job world s job o)
  closed-job s job o legal full =
      record { still = λ is. absurd (no-job s job o legal full is); full = λ is. absurd (no-job s job o legal full is) }

  closed-close : (s : State) → IsTrue (is_close_legal world s) → Closes s event.Close (after_close s)
  closed-close s legal full =
      let first = and_parts (is_open s) (list_all (is_logged s.logs.jobs) (numbers (length world.jobs)) && not s.logs.closed) legal in
      let second = and_parts (list_all (is_logged s.logs.jobs) (numbers (length world.jobs))) (not s.logs.closed) first.1 in
      record { still = λ is. record { closed = refl; jobs = refl }; full = λ is. second.0 }

  closed-reload : (s : State) (user reload : ℕ) → Closes s (event.Dict user reload) (after_reload s user reload)
  closed-reload s user reload full = record { still = λ is. record { closed = is; jobs = refl }; full = full }

  closed-did : (s : State) (c : ℕ) (e : Event) (deed : Deed) → Closes s e (did world s c deed e)
  unfolding did
  closed-did s c e deed full = record { still = λ is. record { closed = is; jobs = refl }; full = full }

  pub closed-apply : (s t : State) (e : Event) → apply world s e ≡ Some t → Closes s e t
  closed-apply =
      by_kind world Closes closed-job closed-close (λ s user reload legal. closed-reload s user reload) (λ s c e deed may. closed-did s c e deed)

  pub full-from : (s t : State) (events : List Event) → play_from world s events ≡ Some t → IsFullIfClosed world s → IsFullIfClosed world t
  full-from = kept_by_play world (IsFullIfClosed world) (λ s t e here full. (closed-apply s t e here full).full)

  pub full-start : IsFullIfClosed world (start world)
  full-start is = absurd (false≢true is)

pub closed_is_full : ClosedIsFull
closed_is_full world events s made = full-from world (start world) s events made (full-start world)

-- as long as it is closed it stays
record HasStayed (world : World) (s t : State) : Type 0 where
  pub full : IsFullIfClosed world t
  pub still : IsStillClosed s t

pub closed_stays : ClosedStays
closed_stays world events more s t made further is =
    (kept_by_play world (HasStayed world s) (λ u v e here stayed. let next = closed-apply world u v e here stayed.full in let still = next.still stayed.still.closed in record { full = next.full; still = record { closed = still.closed; jobs = still.jobs ∙ stayed.still.jobs } }) s t more further (record { full = closed_is_full world events s made; still = record { closed = is; jobs = refl } })).still

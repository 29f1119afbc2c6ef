-- Each client of a state is what its own events make of it.
use Rattle.std.proofs.Common.{◌≡◌, refl, sym, ap, subst, ◌∙◌, inl, inr, ◌⊎◌, ⊎_elim, ℕ, zero, suc, ◌≤◌, ◌==◌, ◌++◌, Bool, true, List, [], ◌∷◌, Option, Some, None, length, get_or, map, take, arith, take_all}
use Rattle.std.specs.Prelude.{◌||◌, IsTrue, if◌then◌else◌, option_and_then}
use Rattle.std.proofs.lemmas.Bool.{cases_eq, eq-eqb}
use Rattle.std.proofs.lemmas.List.{take-append-le}
use Rattle.std.proofs.lemmas.List.Folds.{list_any-append}
use Rattle.mz_base.specs.declared.event.Event.{Event}
use Rattle.mz_base.specs.declared.logs.JobEntry.{JobEntry}
use Rattle.mz_base.specs.declared.logs.Own.{Own}
use Rattle.keys.specs.declared.command.Command.{Command}
use Rattle.session_meaning.specs.Steps.{step}
use Rattle.run_meaning.specs.Deeds.{Deed, Awaits, Ends, FindsNone, Learns, Steps, Takes, certified_by, does, done, entries_seen, over, stepped, with_certificate}
use Rattle.mz_base.specs.declared.logs.CertEntry.{CertEntry}
use Rattle.run_meaning.specs.GrowthLaws.{IsFullIfClosed, IsGrown}
use Rattle.run_meaning.specs.Jobs.{is_published, newest, publishes}
use Rattle.run_meaning.specs.Plays.{apply, did}
use Rattle.run_meaning.specs.SoloLaws.{ClientsAreAlone, around_in}
use Rattle.run_meaning.specs.Solos.{Around, after_deed, alone, alone_after, client_of, deed_of}
use Rattle.run_meaning.specs.States.{Client, State, client_at, client_log, journal_of, no_client_log, start}
use Rattle.run_meaning.specs.Users.{data_of}
use Rattle.run_meaning.specs.Worlds.{ClientPlan, World, user_of}
use Rattle.run_meaning.proofs.ClientLemmas.{AreAsMany, as-many-apply, as-many-start, own-did}
use Rattle.run_meaning.proofs.EventKinds.{IsDeed, MayCome, awaiting, by_kind, ending, finding_none, kept_by_play, learning, stepping, taking}
use Rattle.run_meaning.proofs.GrowthLemmas.{client-is, closed-apply, full-start, grown-apply, grown-refl, grown-trans, left-close, left-job, left-reload, others-did}

-- ---- One own event more

module _ (world : World) (around : Around) (own : Own) where
  just : (o : Option Client) → option_and_then (λ next. Some next) o ≡ o
  just None = refl
  just (Some client) = refl

  alone-more : (client : Client) (events : List Own) → alone world around client (events ++ own ∷ []) ≡ option_and_then (λ next. alone_after world around next own) (alone world around client events)
  alone-more client [] = just (alone_after world around client own)
  alone-more client (first ∷ events) = by_first (λ next. alone-more next events) (alone_after world around client first)
    where
      by_first : ((next : Client) → alone world around next (events ++ own ∷ []) ≡ option_and_then (λ t. alone_after world around t own) (alone world around next events)) → (o : Option Client) → option_and_then (λ next. alone world around next (events ++ own ∷ [])) o ≡ option_and_then (λ t. alone_after world around t own) (option_and_then (λ next. alone world around next events) o)
      by_first goes_on None = refl
      by_first goes_on (Some next) = goes_on next

-- ---- What a deed notes

with-own : (client : Client) (made : Option CertEntry) → (with_certificate client made).log.own ≡ client.log.own
with-own client None = refl
with-own client (Some made) = refl

stepped-own : (client : Client) (rest : List Command) → (stepped client rest).log.own ≡ client.log.own
stepped-own client [] = refl
stepped-own client (c ∷ rest) =
    let made = step client.progress.session c client.progress.taken in
    with-own (over client made.session made.line) (certified_by client client.progress.rest)

does-own : (client : Client) (deed : Deed) → (does client deed).log.own ≡ client.log.own
does-own client Learns = refl
does-own client (Takes pinned entries) = refl
does-own client (Awaits job) = refl
does-own client (FindsNone newest) = refl
does-own client Steps = stepped-own client client.progress.rest
does-own client Ends = refl

abbrev pub own_of : Event → Deed → Own
own_of e deed = record { event = e; prefix = entries_seen deed }

pub done-own : (client : Client) (e : Event) (deed : Deed) → (done client e deed).log.own ≡ client.log.own ++ own_of e deed ∷ []
unfolding done
done-own client e deed = ap (λ own. own ++ own_of e deed ∷ []) (does-own client deed)

-- ---- What its own events are read with

-- a job log and a journal that begin with those of the state
pub record Begins (world : World) (s : State) (c : ℕ) (around : Around) : Type 0 where
  pub user : around.user ≡ user_of world c
  pub jobs : IsGrown s.logs.jobs around.jobs
  pub closed : IsTrue s.logs.closed → (IsTrue around.closed) × (around.jobs ≡ s.logs.jobs)
  pub journal : IsGrown (journal_of s (user_of world c)) around.journal

published-grown : (log more : List JobEntry) (job : ℕ) → is_published log job ≡ true → is_published (log ++ more) job ≡ true
published-grown log more job is = list_any-append (publishes job) log more ∙ ap (λ b. b || is_published more job) is

pub begins-before : (world : World) (s t : State) (e : Event) (c : ℕ) (around : Around) → apply world s e ≡ Some t → IsFullIfClosed world s → Begins world t c around → Begins world s c around
begins-before world s t e c around made full begins =
    let grown = grown-apply world s t e made in
    record {
      user = begins.user;
      jobs = grown-trans s.logs.jobs t.logs.jobs around.jobs grown.jobs begins.jobs;
      closed = λ is. let still = (closed-apply world s t e made full).still is in let after = begins.closed still.closed in (after.0, after.1 ∙ still.jobs);
      journal = grown-trans (journal_of s (user_of world c)) (journal_of t (user_of world c)) around.journal (grown.journals (user_of world c)) begins.journal;
    }

-- the deed of an own event is that of the event
deed-follows : (world : World) (s : State) (c : ℕ) (e : Event) (given : Bool) (deed : Deed) (around : Around) → IsDeed world s c e given deed → given ≡ true → Begins world s c around → deed_of world around e (entries_seen deed) ≡ Some deed
unfolding deed_of
deed-follows world s c e given deed around learning there begins = refl
deed-follows world s c e given deed around stepping there begins = refl
deed-follows world s c e given deed around ending there begins = refl
deed-follows world s c e given deed around (taking job) there begins =
    let journal = journal_of s (user_of world c) in
    let published : is_published around.jobs job ≡ true = ap (λ jobs. is_published jobs job) begins.jobs.1 ∙ published-grown s.logs.jobs begins.jobs.0 job there in
    let seen : take (length journal) around.journal ≡ journal = ap (take (length journal)) begins.journal.1 ∙ take-append-le (length journal) journal begins.journal.0 (let all : length journal ≤ length journal = omega arith in all) ∙ take_all (length journal) journal (let all : length journal ≤ length journal = omega arith in all) in
    ap (λ b. if b then Some (Takes (data_of world around.user job (take (length journal) around.journal)) (length journal)) else None) published
    ∙ ap (λ user. Some (Takes (data_of world user job (take (length journal) around.journal)) (length journal))) begins.user
    ∙ ap (λ prefix. Some (Takes (data_of world (user_of world c) job prefix) (length journal))) seen
deed-follows world s c e given deed around (awaiting job) there begins =
    let published : is_published around.jobs job ≡ true = ap (λ jobs. is_published jobs job) begins.jobs.1 ∙ published-grown s.logs.jobs begins.jobs.0 job there in
    ap (λ b. if b then Some (Awaits job) else None) published
deed-follows world s c e given deed around finding_none there begins =
    let after = begins.closed there in
    ap (λ b. if b then Some (FindsNone (newest around.jobs)) else None) after.0 ∙ ap (λ jobs. Some (FindsNone (newest jobs))) after.1

-- ---- Each event

-- a client after an event: as it was, or its deed was done
pub record HasDone (world : World) (s t : State) (c : ℕ) (e : Event) : Type 0 where
  pub deed : Deed
  pub came : MayCome world s c e deed
  pub made : AreAsMany s → client_at t c ≡ done (client_at s c) e deed

abbrev pub IsAfter : World → State → Event → State → Type 0
IsAfter world s e t = (c : ℕ) → (client_at t c ≡ client_at s c) ⊎ HasDone world s t c e

after-did : (world : World) (s : State) (c : ℕ) (e : Event) (deed : Deed) → MayCome world s c e deed → IsAfter world s e (did world s c deed e)
after-did world s c e deed came other = ⊎_elim here there (cases_eq c other)
  where
    here : c ≡ other → (client_at (did world s c deed e) other ≡ client_at s other) ⊎ HasDone world s (did world s c deed e) other e
    here same =
        subst (λ n. (client_at (did world s c deed e) n ≡ client_at s n) ⊎ HasDone world s (did world s c deed e) n e) same (inr (record { deed = deed; came = came; made = own-did world s c e deed came.number }))

    there : (c ≡ other → ⊥) → (client_at (did world s c deed e) other ≡ client_at s other) ⊎ HasDone world s (did world s c deed e) other e
    there apart = inl (others-did world s c other e deed apart)

pub after-apply : (world : World) (s t : State) (e : Event) → apply world s e ≡ Some t → IsAfter world s e t
after-apply world =
    by_kind world (IsAfter world) (λ s job o legal c. inl (left-job world s job o c)) (λ s legal c. inl (left-close s c)) (λ s user reload legal c. inl (left-reload s user reload c)) (after-did world)

module _ (world : World) where
  -- what holds of a state, its log and its clients
  pub record Follows (s : State) : Type 0 where
    pub full : IsFullIfClosed world s
    pub as_many : AreAsMany s
    pub follows : (c : ℕ) (around : Around) → Begins world s c around → alone world around (client_at (start world) c) (client_at s c).log.own ≡ Some (client_at s c)

  goes-on : (s t : State) (e : Event) (c : ℕ) (around : Around) → Follows s → Begins world s c around → HasDone world s t c e → alone world around (client_at (start world) c) (client_at t c).log.own ≡ Some (client_at t c)
  unfolding alone_after client_at
  goes-on s t e c around before begins has =
      let client = client_at s c in
      let opening = client_at (start world) c in
      let is : client_at t c ≡ done client e has.deed = has.made before.as_many in
      let own = own_of e has.deed in
      let named : (client_of e == c) ≡ true = eq-eqb (client_of e) c (client-is world s c e has.came.given has.deed has.came.is) in
      let deed : deed_of world around e (entries_seen has.deed) ≡ Some has.deed = deed-follows world s c e has.came.given has.deed around has.came.is has.came.there begins in
      let last : alone_after world around client own ≡ Some (done client e has.deed) = ap (λ b. if b then option_and_then (after_deed client e) (deed_of world around e (entries_seen has.deed)) else None) named ∙ ap (λ o. option_and_then (after_deed client e) o) deed ∙ ap (λ b. if b then Some (done client e has.deed) else None) has.came.may_come in
      let whole : alone world around opening (client.log.own ++ own ∷ []) ≡ Some (done client e has.deed) = alone-more world around own opening client.log.own ∙ ap (λ o. option_and_then (λ next. alone_after world around next own) o) (before.follows c around begins) ∙ last in
      ap (λ (after : Client). alone world around opening after.log.own) is ∙ ap (alone world around opening) (done-own client e has.deed) ∙ whole ∙ ap Some (sym is)

  pub follows-apply : (s t : State) (e : Event) → apply world s e ≡ Some t → Follows s → Follows t
  follows-apply s t e made before =
      record {
        full = (closed-apply world s t e made before.full).full;
        as_many = as-many-apply world s t e made before.as_many;
        follows = λ c around begins. let earlier = begins-before world s t e c around made before.full begins in ⊎_elim (λ same. subst (λ client. alone world around (client_at (start world) c) client.log.own ≡ Some client) (sym same) (before.follows c around earlier)) (λ has. goes-on s t e c around before earlier has) (after-apply world s t e made c);
      }

own-at : (plans : List ClientPlan) (place : ℕ) → (get_or (map client_log plans) place no_client_log).own ≡ []
own-at [] place = refl
own-at (plan ∷ plans) zero = refl
own-at (plan ∷ plans) (suc place) = own-at plans place

pub no-own : (world : World) (c : ℕ) → (client_at (start world) c).log.own ≡ []
unfolding client_at
no-own world zero = refl
no-own world (suc place) = own-at world.clients place

pub follows-start : (world : World) → Follows world (start world)
follows-start world =
    record { full = full-start world; as_many = as-many-start world; follows = λ c around begins. ap (alone world around (client_at (start world) c)) (no-own world c) }

-- the state's own log and journal are such
pub begins-in : (world : World) (s : State) (c : ℕ) → Begins world s c (around_in world s c)
begins-in world s c =
    record { user = refl; jobs = grown-refl s.logs.jobs; closed = λ is. (is, refl); journal = grown-refl (journal_of s (user_of world c)) }

pub clients_are_alone : ClientsAreAlone
clients_are_alone world events s c made =
    (kept_by_play world (Follows world) (follows-apply world) (start world) s events made (follows-start world)).follows c (around_in world s c) (begins-in world s c)

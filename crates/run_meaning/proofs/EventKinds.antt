-- What an event makes, by its kind: a job, the close, a reload, or the deed of a client.
use Rattle.std.proofs.Common.{◌≡◌, subst, ℕ, Bool, true, List, [], ◌∷◌, Some, length}
use Rattle.std.specs.Prelude.{◌&&◌, IsTrue}
use Rattle.std.proofs.lemmas.Bool.{and_parts}
use Rattle.std.proofs.lemmas.Option.{cond_some, option_and_then_some, same_Some}
use Rattle.mz_base.specs.declared.event.Event.{Event}
use Rattle.mz_base.specs.declared.event.Event.TheVariants as event
use Rattle.mz_base.specs.declared.event.Outcome.{Outcome}
use Rattle.run_meaning.specs.Deeds.{Deed, Awaits, Ends, FindsNone, Learns, Steps, Takes, may}
use Rattle.run_meaning.specs.Jobs.{entry_after, is_published, newest}
use Rattle.run_meaning.specs.Numbers.{is_number}
use Rattle.run_meaning.specs.Plays.{apply, by_client, closed, did, is_close_legal, is_job_legal, is_reload_legal, play_from, provided, with_event, with_job, with_reload}
use Rattle.run_meaning.specs.States.{State, client_at, is_open, journal_of}
use Rattle.run_meaning.specs.Users.{data_of}
use Rattle.run_meaning.specs.Worlds.{World, job_at, user_of}

pub provided-some : (legal : Bool) (s t : State) → provided legal s ≡ Some t → (legal ≡ true) × (s ≡ t)
unfolding provided
provided-some legal s t made = cond_some legal s t made

-- the deed of an event of a client, and whether what it is given is there
pub data IsDeed (world : World) (s : State) (c : ℕ) : Event → Bool → Deed → Type 0 where
  learning : IsDeed world s c (event.Learn c) true Learns
  taking : (job : ℕ) → IsDeed world s c (event.Take c job) (is_published s.logs.jobs job) (Takes (data_of world (user_of world c) job (journal_of s (user_of world c))) (length (journal_of s (user_of world c))))
  stepping : IsDeed world s c (event.Step c) true Steps
  awaiting : (job : ℕ) → IsDeed world s c (event.Await c job) (is_published s.logs.jobs job) (Awaits job)
  finding_none : IsDeed world s c (event.NotYet c) s.logs.closed (FindsNone (newest s.logs.jobs))
  ending : IsDeed world s c (event.End c) true Ends

-- the event is the deed of this client, and it may come
pub record MayCome (world : World) (s : State) (c : ℕ) (e : Event) (deed : Deed) : Type 0 where
  pub given : Bool
  pub is : IsDeed world s c e given deed
  pub begun : IsTrue (is_open s)
  pub there : IsTrue given
  pub number : IsTrue (is_number s.clients c)
  pub may_come : IsTrue (may (client_at s c) deed)

pub by_client-some : (world : World) (s t : State) (c : ℕ) (e : Event) (given : Bool) (deed : Deed) → IsDeed world s c e given deed → by_client world s given c deed e ≡ Some t → MayCome world s c e deed × (did world s c deed e ≡ t)
unfolding by_client
by_client-some world s t c e given deed is made =
    let legal = provided-some (is_open s && (given && (is_number s.clients c && may (client_at s c) deed))) (did world s c deed e) t made in
    let first = and_parts (is_open s) (given && (is_number s.clients c && may (client_at s c) deed)) legal.0 in
    let second = and_parts given (is_number s.clients c && may (client_at s c) deed) first.1 in
    let third = and_parts (is_number s.clients c) (may (client_at s c) deed) second.1 in
    (record { given = given; is = is; begun = first.0; there = second.0; number = third.0; may_come = third.1 }, legal.1)

-- the states that events of no client make
abbrev pub after_job : World → State → ℕ → Outcome → State
after_job world s job o = with_event (with_job s (entry_after s.logs.jobs job (job_at world job))) (event.Job job o)

abbrev pub after_close : State → State
after_close s = with_event (closed s) event.Close

abbrev pub after_reload : State → ℕ → ℕ → State
after_reload s user reload = with_event (with_reload s user reload) (event.Dict user reload)

-- what holds of each kind holds of each legal event
module _ (world : World) (P : State → Event → State → Type 0)
    (of_job : (s : State) (job : ℕ) (o : Outcome) → IsTrue (is_job_legal world s job o) → P s (event.Job job o) (after_job world s job o))
    (of_close : (s : State) → IsTrue (is_close_legal world s) → P s event.Close (after_close s))
    (of_reload : (s : State) (user reload : ℕ) → IsTrue (is_reload_legal world s user reload) → P s (event.Dict user reload) (after_reload s user reload))
    (of_deed : (s : State) (c : ℕ) (e : Event) (deed : Deed) → MayCome world s c e deed → P s e (did world s c deed e))
  where
    by_deed : (s t : State) (c : ℕ) (e : Event) (given : Bool) (deed : Deed) → IsDeed world s c e given deed → by_client world s given c deed e ≡ Some t → P s e t
    by_deed s t c e given deed is made =
        let came = by_client-some world s t c e given deed is made in
        subst (P s e) came.1 (of_deed s c e deed came.0)

    pub by_kind : (s t : State) (e : Event) → apply world s e ≡ Some t → P s e t
    unfolding apply
    by_kind s t (event.Job job o) made =
        let legal = provided-some (is_job_legal world s job o) (after_job world s job o) t made in
        subst (P s (event.Job job o)) legal.1 (of_job s job o legal.0)
    by_kind s t event.Close made =
        let legal = provided-some (is_close_legal world s) (after_close s) t made in
        subst (P s event.Close) legal.1 (of_close s legal.0)
    by_kind s t (event.Dict user reload) made =
        let legal = provided-some (is_reload_legal world s user reload) (after_reload s user reload) t made in
        subst (P s (event.Dict user reload)) legal.1 (of_reload s user reload legal.0)
    by_kind s t (event.Learn c) made = by_deed s t c (event.Learn c) true Learns learning made
    by_kind s t (event.Take c job) made =
        by_deed s t c (event.Take c job) (is_published s.logs.jobs job) (Takes (data_of world (user_of world c) job (journal_of s (user_of world c))) (length (journal_of s (user_of world c)))) (taking job) made
    by_kind s t (event.Step c) made = by_deed s t c (event.Step c) true Steps stepping made
    by_kind s t (event.Await c job) made =
        by_deed s t c (event.Await c job) (is_published s.logs.jobs job) (Awaits job) (awaiting job) made
    by_kind s t (event.NotYet c) made = by_deed s t c (event.NotYet c) s.logs.closed (FindsNone (newest s.logs.jobs)) finding_none made
    by_kind s t (event.End c) made = by_deed s t c (event.End c) true Ends ending made

-- what each legal event keeps stays over all of a list
module _ (world : World) (P : State → Type 0) (kept : (s t : State) (e : Event) → apply world s e ≡ Some t → P s → P t) where
  pub kept_by_play : (s t : State) (es : List Event) → play_from world s es ≡ Some t → P s → P t
  kept_by_play s t [] made holds = subst P (same_Some s t made) holds
  kept_by_play s t (e ∷ es) made holds =
      option_and_then_some (λ next. play_from world next es) (apply world s e) t made (λ next here rest. kept_by_play next t es rest (kept s next e here holds))

-- When a deed of a client at a place may come, and what it makes of what is kept.
use Rattle.std.proofs.Common.{◌≡◌, refl, sym, ap, subst, ◌∙◌, inl, inr, ◌⊎◌, ℕ, zero, suc, ◌+◌, ◌-◌, ◌<◌, Bool, true, false, List, [], ◌∷◌, ◌++◌, Option, Some, None, arith, append-nil, is_some, length, get_or-set_same, slice_index_or, slice_set}
use Rattle.std.specs.Prelude.{◌&&◌, IfNone, if◌then◌else◌}
use Rattle.std.proofs.lemmas.Bool.{cases_eq, true≢false}
use Rattle.std.proofs.lemmas.List.{get_or-set_other, length-set}
use Rattle.mz_base.specs.declared.event.Event.{Event}
use Rattle.mz_base.specs.declared.logs.Logs.{Logs}
use Rattle.mz_base.specs.declared.logs.Own.{Own}
use Rattle.mz_base.specs.declared.logs.UserEntry.{UserEntry}
use Rattle.mz_base.specs.declared.logs.UserEntry.TheVariants as entry
use Rattle.mz_base.specs.declared.logs.UserLog.{UserLog}
use Rattle.mz_base.specs.declared.report.Line.{Line}
use Rattle.session_meaning.specs.Stages.{Pinned}
use Rattle.run_meaning.specs.Deeds.{Deed, Awaits, Ends, FindsNone, Learns, Steps, Takes, does, done, entries_of, lacks_learn, may, pairs_of}
use Rattle.run_meaning.specs.Numbers.{is_number, with_number}
use Rattle.run_meaning.specs.Plays.{apply, by_client, did, provided, with_entries}
use Rattle.run_meaning.specs.States.{Client, Progress, State, client_at, client_log_of, is_open, no_client_log, no_progress, no_user_log, progress_of}
use Rattle.run_meaning.specs.Worlds.{World, user_of}
use Rattle.run_meaning.proofs.EventKinds.{IsDeed, learning, taking, stepping, awaiting, finding_none, ending}
use Rattle.run_meaning.proofs.RunningLemmas.{number-from}
use Rattle.run_meaning.proofs.ServingLemmas.{legal-deed}
use Rattle.core_steps.specs.Additions.{added, beside_of, line_of, noted_at, own_of, with_beside}
use Rattle.core_steps.specs.Boards.{IsBoard}
use Rattle.core_steps.specs.Cores.{IsMade}
use Rattle.core_steps.specs.Helds.{may_await, may_end, may_find_none, may_step, may_take}
use Rattle.core_steps.specs.Kepts.{AreCaught, IsKept, Kept, MayDo, StandsAt, after_deed, logs_after, progress_at, ran, with_logs, with_progress}
use Rattle.core_steps.specs.Standings.{IsCaught}
use Rattle.core_steps.specs.declared.addition.Beside.{Beside}
use Rattle.core_steps.specs.declared.addition.Beside.TheVariants as beside
use Rattle.core_steps.specs.declared.standing.Standing.{Standing}
use Rattle.core_steps.proofs.DeedLogs.{logs-did-at}
use Rattle.core_steps.proofs.KeptLemmas.{user-within}
use Rattle.core_steps.proofs.PlayLemmas.{kept-played}
use Rattle.core_steps.proofs.StandingLemmas.{end_entry, learn_entry}

-- ---- The client at a place

number-of : (c place : ℕ) → c ≡ place + 1 → c ≡ suc place
number-of c place is = omega (arith, is)

pub progress-there : (s : State) (c place : ℕ) → c ≡ place + 1 → (client_at s c).progress ≡ slice_index_or s.clients place no_progress
unfolding client_at
progress-there s c place is = ap (progress_of s) (number-of c place is)

-- what may come, by how far it is
module _ (kept : Kept) (c place : ℕ) (is : c ≡ place + 1) where
  pub may-learn : may (client_at kept.state c) Learns ≡ lacks_learn (progress_at kept place)
  unfolding may
  may-learn = ap lacks_learn (progress-there kept.state c place is)

  pub may-take : (pinned : Pinned) (entries : ℕ) → may (client_at kept.state c) (Takes pinned entries) ≡ may_take (progress_at kept place) pinned.version
  unfolding may
  may-take pinned entries = ap (λ p. may_take p pinned.version) (progress-there kept.state c place is)

  pub may-await : (job : ℕ) → may (client_at kept.state c) (Awaits job) ≡ may_await (progress_at kept place) job
  unfolding may
  may-await job = ap (λ p. may_await p job) (progress-there kept.state c place is)

  pub may-find-none : (newest : ℕ) → may (client_at kept.state c) (FindsNone newest) ≡ may_find_none (progress_at kept place) newest
  unfolding may
  may-find-none newest = ap (λ p. may_find_none p newest) (progress-there kept.state c place is)

  pub may-step : may (client_at kept.state c) Steps ≡ may_step (progress_at kept place)
  unfolding may
  may-step = ap may_step (progress-there kept.state c place is)

  pub may-end : may (client_at kept.state c) Ends ≡ may_end (progress_at kept place)
  unfolding may
  may-end = ap may_end (progress-there kept.state c place is)

pub log-there : (s : State) (c place : ℕ) → c ≡ place + 1 → (client_at s c).log ≡ slice_index_or s.logs.clients place no_client_log
unfolding client_at
log-there s c place is = ap (client_log_of s) (number-of c place is)

-- ---- Where it may not come

-- what holds in any case holds where there is nothing
pub in-no-case : {A : Type 0} {P : Type 0} → (found : Option A) → P → IfNone found P
in-no-case None holds = holds
in-no-case (Some found) holds = tt

module _ (world : World) (s : State) (c : ℕ) (e : Event) (given : Bool) (deed : Deed) where
  abbrev asks : Bool
  asks = is_open s && (given && (is_number s.clients c && may (client_at s c) deed))

  not-by-client : asks ≡ false → by_client world s given c deed e ≡ None
  unfolding by_client provided
  not-by-client is = ap (λ b. if b then Some (did world s c deed e) else None) is

not-applied : (world : World) (s : State) (c : ℕ) (e : Event) (given : Bool) (deed : Deed) → IsDeed world s c e given deed → asks world s c e given deed ≡ false → apply world s e ≡ None
unfolding apply
not-applied world s c e given deed learning is = not-by-client world s c e given deed is
not-applied world s c e given deed (taking job) is = not-by-client world s c e given deed is
not-applied world s c e given deed stepping is = not-by-client world s c e given deed is
not-applied world s c e given deed (awaiting job) is = not-by-client world s c e given deed is
not-applied world s c e given deed finding_none is = not-by-client world s c e given deed is
not-applied world s c e given deed ending is = not-by-client world s c e given deed is

none-first : (a g n m : Bool) → (a && n) ≡ false → (a && (g && (n && m))) ≡ false
none-first false g n m is = refl
none-first true false n m is = refl
none-first true true false m is = refl
none-first true true true m is = absurd (true≢false is)

none-given : (a g n m : Bool) → g ≡ false → (a && (g && (n && m))) ≡ false
none-given false g n m is = refl
none-given true false n m is = refl
none-given true true n m is = absurd (true≢false is)

none-last : (a g n m : Bool) → m ≡ false → (a && (g && (n && m))) ≡ false
none-last false g n m is = refl
none-last true false n m is = refl
none-last true true false m is = refl
none-last true true true false is = refl
none-last true true true true is = absurd (true≢false is)

-- the client is not there, or job 1 does not stand
pub illegal-place : (world : World) (s : State) (c : ℕ) (e : Event) (given : Bool) (deed : Deed) → IsDeed world s c e given deed → (is_open s && is_number s.clients c) ≡ false → apply world s e ≡ None
illegal-place world s c e given deed is none =
    not-applied world s c e given deed is (none-first (is_open s) given (is_number s.clients c) (may (client_at s c) deed) none)

none-both : (a g n m : Bool) → (g && m) ≡ false → (a && (g && (n && m))) ≡ false
none-both a false n m is = none-given a false n m refl
none-both a true n m is = none-last a true n m is

-- what it is given is not there, or the deed may not come
pub illegal-both : (world : World) (s : State) (c : ℕ) (e : Event) (given : Bool) (deed : Deed) → IsDeed world s c e given deed → (given && may (client_at s c) deed) ≡ false → apply world s e ≡ None
illegal-both world s c e given deed is none =
    not-applied world s c e given deed is (none-both (is_open s) given (is_number s.clients c) (may (client_at s c) deed) none)

-- the deed may not come
pub illegal-may : (world : World) (s : State) (c : ℕ) (e : Event) (given : Bool) (deed : Deed) → IsDeed world s c e given deed → may (client_at s c) deed ≡ false → apply world s e ≡ None
illegal-may world s c e given deed is none =
    not-applied world s c e given deed is (none-last (is_open s) given (is_number s.clients c) (may (client_at s c) deed) none)

-- ---- What it makes

module _ (kept : Kept) (c place : ℕ) (e : Event) (given : Bool) (deed : Deed) where
  -- the event is legal
  deed-legal : MayDo kept c place deed → IsDeed kept.world kept.state c e given deed → given ≡ true → apply kept.world kept.state e ≡ Some (did kept.world kept.state c deed e)
  deed-legal can is there =
      let number : c ≡ place + 1 = can.stands.number in
      let within : place < length kept.state.clients = can.stands.within in
      legal-deed kept.world kept.state c e given deed is can.stands.begun there (number-from kept.state.clients c (omega (arith, number)) (omega (arith, number, within))) can.may_come

  pub deed-is-made : MayDo kept c place deed → IsDeed kept.world kept.state c e given deed → given ≡ true → IsMade (ran kept) e (ran (after_deed kept c e deed))
  deed-is-made can is there = record { world = refl; state = deed-legal can is there }

-- the progress after a deed
done-progress : (s : State) (c : ℕ) (e : Event) (deed : Deed) → (done (client_at s c) e deed).progress ≡ (does (client_at s c) deed).progress
unfolding done
done-progress s c e deed = refl

did-clients : (world : World) (s : State) (c place : ℕ) (e : Event) (deed : Deed) → c ≡ suc place → (did world s c deed e).clients ≡ slice_set s.clients place (does (client_at s c) deed).progress
unfolding did
did-clients world s c place e deed is =
    ap (λ n. with_number s.clients n (done (client_at s c) e deed).progress) is
    ∙ ap (slice_set s.clients place) (done-progress s c e deed)

module _ (kept : Kept) (c place : ℕ) (e : Event) (deed : Deed) where
  -- the logs with what a deed adds, and the client moved by it, are what the deed makes
  deed-made : c ≡ place + 1 → 0 < user_of kept.world c → with_progress (logs_after kept place (user_of kept.world c - 1) (own_of e deed) (line_of (client_at kept.state c) deed) (beside_of (client_at kept.state c) deed)) place (does (client_at kept.state c) deed).progress ≡ after_deed kept c e deed
  deed-made is user =
      let at : c - 1 ≡ place = omega (arith, is) in
      let number : 0 < c = omega (arith, is) in
      let logs = logs-did-at kept.world kept.state c deed e number user in
      let clients = did-clients kept.world kept.state c place e deed (number-of c place is) in
      let here = ap (λ p. added kept.state.logs p (user_of kept.world c - 1) (own_of e deed) (line_of (client_at kept.state c) deed) (beside_of (client_at kept.state c) deed)) at in
      sym ((λ i. record kept { state = record { logs = (logs ∙ here) i; clients = clients i } }))

-- ---- The users after a deed

module _ (logs : List UserLog) (users : List Standing) (caught : AreCaught logs users) (entries : List UserEntry) (stays : (journal : List UserEntry) (s : Standing) → IsCaught journal s → IsCaught (journal ++ entries) s) where
  abbrev grown : ℕ → UserLog
  grown place =
      let log = slice_index_or logs place no_user_log in
      record log { entries = log.entries ++ entries }

  caught-at : (place k : ℕ) (log : UserLog) (user : Standing) → k < length users → (place ≡ k) ⊎ (place ≡ k → ⊥) → IsCaught (slice_index_or (slice_set logs place (grown place)) k log).entries (slice_index_or users k user)
  caught-at place k log user there (inl same) =
      let within : place < length logs = (let few = caught.count in omega (arith, there, few, same)) in
      let at : slice_index_or (slice_set logs place (grown place)) k log ≡ grown place = subst (λ n. slice_index_or (slice_set logs place (grown place)) n log ≡ grown place) same (get_or-set_same logs place (grown place) log within) in
      let own : IsCaught (slice_index_or logs place no_user_log).entries (slice_index_or users k user) = subst (λ n. IsCaught (slice_index_or logs n no_user_log).entries (slice_index_or users k user)) (sym same) (caught.each k no_user_log user there) in
      subst (λ (l : UserLog). IsCaught l.entries (slice_index_or users k user)) (sym at) (stays (slice_index_or logs place no_user_log).entries (slice_index_or users k user) own)
  caught-at place k log user there (inr apart) =
      subst (λ (l : UserLog). IsCaught l.entries (slice_index_or users k user)) (sym (get_or-set_other logs place k (grown place) log (λ same. apart (sym same)))) (caught.each k log user there)

  -- the journal of a user at a place has these more
  caught-grown : (place : ℕ) → AreCaught (slice_set logs place (grown place)) users
  caught-grown place =
      record {
        count = caught.count ∙ sym (length-set logs place (grown place));
        each = λ k log user there. caught-at place k log user there (cases_eq place k);
      }

-- what a deed adds to a journal leaves each user with what it has
entries-stay : (client : Client) (deed : Deed) (journal : List UserEntry) (s : Standing) → IsCaught journal s → IsCaught (journal ++ entries_of client deed) s
entries-stay client Learns journal s caught =
    learn_entry journal s client.number (client.progress.learns + 1) (pairs_of client.progress.session client.progress.rest) caught
entries-stay client (Takes pinned entries) journal s caught = subst (λ j. IsCaught j s) (sym (append-nil journal)) caught
entries-stay client (Awaits job) journal s caught = subst (λ j. IsCaught j s) (sym (append-nil journal)) caught
entries-stay client (FindsNone newest) journal s caught = subst (λ j. IsCaught j s) (sym (append-nil journal)) caught
entries-stay client Steps journal s caught = subst (λ j. IsCaught j s) (sym (append-nil journal)) caught
entries-stay client Ends journal s caught = end_entry journal s client.number client.progress.learns caught

caught-with : (logs : List UserLog) (users : List Standing) (user : ℕ) (entries : List UserEntry) → AreCaught logs users → ((journal : List UserEntry) (s : Standing) → IsCaught journal s → IsCaught (journal ++ entries) s) → AreCaught (with_entries logs user entries) users
caught-with logs users user [] caught stays = caught
caught-with logs users zero (first ∷ more) caught stays = caught
caught-with logs users (suc place) (first ∷ more) caught stays = caught-grown logs users caught (first ∷ more) stays place

module _ (kept : Kept) (c place : ℕ) (e : Event) (given : Bool) (deed : Deed) where
  caught-did : AreCaught kept.state.logs.users kept.users → AreCaught (did kept.world kept.state c deed e).logs.users kept.users
  unfolding did
  caught-did caught =
      let client = client_at kept.state c in
      caught-with kept.state.logs.users kept.users (user_of kept.world c) (entries_of client deed) caught (entries-stay client deed)

  board-did : IsBoard (length kept.world.jobs) kept.state.logs.jobs kept.board → IsBoard (length kept.world.jobs) (did kept.world kept.state c deed e).logs.jobs kept.board
  unfolding did
  board-did is = is

  -- what is kept is kept of what a deed makes
  deed-kept : IsKept kept → MayDo kept c place deed → IsDeed kept.world kept.state c e given deed → given ≡ true → IsKept (after_deed kept c e deed)
  deed-kept is can kind there =
      record {
        world = is.world;
        plans = is.plans;
        played = kept-played kept.world kept.state (did kept.world kept.state c deed e) e is.played (deed-legal kept c place e given deed can kind there);
        board = board-did is.board;
        caught = caught-did is.caught;
      }

-- ---- What the code does, step by step

pub number-there : (s : State) (c : ℕ) → (client_at s c).number ≡ c
unfolding client_at
number-there s c = refl

-- what a learn and an end enter
pub learn-beside : (s : State) (c : ℕ) → beside_of (client_at s c) Learns ≡ beside.Entry (entry.Learn c ((client_at s c).progress.learns + 1) (pairs_of (client_at s c).progress.session (client_at s c).progress.rest))
unfolding client_at
learn-beside s c = refl

pub end-beside : (s : State) (c : ℕ) → beside_of (client_at s c) Ends ≡ beside.Entry (entry.End c (client_at s c).progress.learns)
unfolding client_at
end-beside s c = refl

-- what is added beside the lines comes to the same
abbrev pub AreBeside : Kept → ℕ → Beside → Beside → Type 0
AreBeside kept place these others =
    (logs : Logs) → is_some logs.certificates ≡ is_some kept.state.logs.certificates → with_beside logs (user_of kept.world (place + 1) - 1) these ≡ with_beside logs (user_of kept.world (place + 1) - 1) others

pub same-beside : (kept : Kept) (place : ℕ) (these others : Beside) → these ≡ others → AreBeside kept place these others
same-beside kept place these others are logs kept' = ap (with_beside logs (user_of kept.world (place + 1) - 1)) are

module _ (kept : Kept) (is : IsKept kept) (c place : ℕ) (there : StandsAt kept c place) (e : Event) (deed : Deed) (own : Own) (line : Option Line) (made : Beside) (change : Progress → Progress) where
  user-there : 0 < user_of kept.world c
  user-there =
      let number = number-of c place there.number in
      let some = (user-within kept is place there.within).0 in
      let same = ap (user_of kept.world) number in
      omega (arith, some, same)

  -- the logs come to what the deed adds, and the client moves as the deed moves it
  pub deed-done : own ≡ own_of e deed → line ≡ line_of (client_at kept.state c) deed → AreBeside kept place made (beside_of (client_at kept.state c) deed) → change (client_at kept.state c).progress ≡ (does (client_at kept.state c) deed).progress → (noted after : Kept) → noted ≡ logs_after kept place (user_of kept.world (place + 1) - 1) own line made → after ≡ with_progress noted place (change (progress_at noted place)) → after ≡ after_deed kept c e deed
  deed-done is_own is_line are moves noted after is_noted is_after =
      let client = client_at kept.state c in
      let user = user_of kept.world (place + 1) - 1 in
      let before = record kept.state.logs { clients = noted_at kept.state.logs.clients place own line; events = kept.state.logs.events ++ own.event ∷ [] } in
      let all = are before refl ∙ (ap (λ o. added kept.state.logs place user o line (beside_of client deed)) is_own ∙ (ap (λ l. added kept.state.logs place user (own_of e deed) l (beside_of client deed)) is_line ∙ ap (λ n. added kept.state.logs place (user_of kept.world n - 1) (own_of e deed) (line_of client deed) (beside_of client deed)) (sym there.number))) in
      let at = ap change (sym (progress-there kept.state c place there.number)) ∙ moves in
      is_after
      ∙ (ap (λ k. with_progress k place (change (progress_at k place))) is_noted
      ∙ (ap (λ logs. with_progress (with_logs kept logs) place (change (progress_at kept place))) all
      ∙ (ap (with_progress (logs_after kept place (user_of kept.world c - 1) (own_of e deed) (line_of client deed) (beside_of client deed)) place) at
      ∙ deed-made kept c place e deed there.number user-there)))

module _ (kept after : Kept) (is : IsKept kept) (c place : ℕ) (e : Event) (given : Bool) (deed : Deed) (can : MayDo kept c place deed) (kind : IsDeed kept.world kept.state c e given deed) (there : given ≡ true) (done : after ≡ after_deed kept c e deed) where
  pub kept-done : IsKept after
  kept-done = subst IsKept (sym done) (deed-kept kept c place e given deed is can kind there)

  pub made-done : IsMade (ran kept) e (ran after)
  made-done = subst (λ k. IsMade (ran kept) e (ran k)) (sym done) (deed-is-made kept c place e given deed can kind there)

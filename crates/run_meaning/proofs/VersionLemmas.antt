-- The data of the clients of a play.
use Rattle.std.proofs.Common.{◌≡◌, refl, sym, ap, subst, ◌∙◌, inl, inr, ⊎_elim, ℕ, zero, suc, true, false, List, [], ◌∷◌, Option, Some, None, get_or, map}
use Rattle.std.specs.Prelude.{◌&&◌, is_none, length, nat_le, not}
use Rattle.std.specs.List.{AllZip, fold, list_any}
use Rattle.std.proofs.lemmas.Bool.{and_parts, not-true, or_parts}
use Rattle.std.proofs.lemmas.List.Sums.{fold-append}
use Rattle.std.proofs.lemmas.Option.{none-some, option_and_then_some, same_Some}
use Rattle.mz_base.specs.declared.event.Event.{Event}
use Rattle.mz_base.specs.declared.event.Event.TheVariants as event
use Rattle.mz_base.specs.declared.logs.Own.{Own}
use Rattle.mz_base.specs.declared.logs.UserEntry.{UserEntry}
use Rattle.keys.specs.declared.command.Command.{Command}
use Rattle.session_meaning.specs.Laws.{is_taken}
use Rattle.session_meaning.specs.Stages.{Pinned}
use Rattle.run_meaning.specs.Deeds.{Deed, Steps, Takes, does, done, lacks_learn, lacks_take, may, need_of}
use Rattle.run_meaning.specs.GrowthLaws.{IsGrown}
use Rattle.run_meaning.specs.Jobs.{is_published}
use Rattle.run_meaning.specs.Plays.{apply, play, play_from}
use Rattle.run_meaning.specs.States.{Client, State, begun_with, client_at, client_log, journal_of, no_client_log, start}
use Rattle.run_meaning.specs.Users.{data_of}
use Rattle.run_meaning.specs.VersionLaws.{AreStill, DataStay, LastIsUsed, LinesHaveVersion, TakenAreUsed, TakesAreTyped, composes_with, data_after, job_after, jobs_at_lines, last_taken, takes}
use Rattle.run_meaning.specs.Worlds.{ClientPlan, World, user_of}
use Rattle.run_meaning.proofs.ClientLemmas.{AreAsMany, as-many-apply, as-many-play, own-did}
use Rattle.run_meaning.proofs.EventKinds.{MayCome, by_client-some, kept_by_play, stepping, taking}
use Rattle.run_meaning.proofs.GrowthLemmas.{grown-apply}
use Rattle.run_meaning.proofs.JournalLemmas.{begun, waited-for}
use Rattle.run_meaning.proofs.SeenLemmas.{Sights, near, sights-apply, sights-start}
use Rattle.run_meaning.proofs.SoloLemmas.{after-apply, done-own, no-own, own_of}
use Rattle.run_meaning.proofs.StepDataLemmas.{typed-next}
use Rattle.run_meaning.proofs.TakenLemmas.{Has, HasVersion, has-does, last-version, lines-does, lines-more, same-last, stays-does, used-stepped}

-- ---- Each event

module _ (world : World) where
  -- the data of the last take among own events, with a journal
  abbrev last_of : ℕ → List UserEntry → List Own → Option Pinned
  last_of c journal own = fold (data_after world (user_of world c) journal) None own

  abbrev LinesHave : Client → Type 0
  LinesHave client = AllZip HasVersion client.log.lines (jobs_at_lines 0 client.log.own)

  pub record Versions (s : State) : Type 0 where
    pub sights : Sights world s
    pub has : (c : ℕ) → Has (client_at s c).progress (last_taken world s c)
    pub lines : (c : ℕ) → LinesHave (client_at s c)

  has-done : (s : State) (c : ℕ) (e : Event) (deed : Deed) → MayCome world s c e deed → Has (client_at s c).progress (last_taken world s c) → Has (done (client_at s c) e deed).progress (last_of c (journal_of s (user_of world c)) (done (client_at s c) e deed).log.own)
  unfolding done
  has-done s c e deed came has =
      let client = client_at s c in
      let f = data_after world (user_of world c) (journal_of s (user_of world c)) in
      let own = own_of e deed in
      subst (λ o. Has (does client deed).progress (fold f None o)) (sym (done-own client e deed)) (subst (Has (does client deed).progress) (sym (fold-append f None client.log.own (own ∷ []))) (has-does world s c client e came.given deed (last_taken world s c) came.is came.may_come has))

  lines-done : (s : State) (c : ℕ) (e : Event) (deed : Deed) → MayCome world s c e deed → Has (client_at s c).progress (last_taken world s c) → LinesHave (client_at s c) → LinesHave (done (client_at s c) e deed)
  unfolding done
  lines-done s c e deed came has all =
      let client = client_at s c in
      let journal = journal_of s (user_of world c) in
      let own = own_of e deed in
      let job = fold job_after 0 client.log.own in
      let version : (pinned : Pinned) → last_taken world s c ≡ Some pinned → pinned.version ≡ job = last-version world (user_of world c) journal client.log.own None 0 (λ pinned is. absurd (none-some pinned is)) in
      subst (λ o. AllZip HasVersion (does client deed).log.lines (jobs_at_lines 0 o)) (sym (done-own client e deed)) (subst (AllZip HasVersion (does client deed).log.lines) (sym (lines-more 0 client.log.own own)) (lines-does client (last_taken world s c) job (jobs_at_lines 0 client.log.own) has version all world s c e came.given deed came.is came.may_come))

  versions-apply : (s t : State) (e : Event) → apply world s e ≡ Some t → Versions s → Versions t
  versions-apply s t e made before =
      record { sights = sights-apply world s t e made before.sights; has = has; lines = lines }
    where
      grown : (c : ℕ) → IsGrown (journal_of s (user_of world c)) (journal_of t (user_of world c))
      grown c = (grown-apply world s t e made).journals (user_of world c)

      same : (c : ℕ) → last_of c (journal_of s (user_of world c)) (client_at t c).log.own ≡ last_taken world t c
      same c =
          sym (ap (λ entries. last_of c entries (client_at t c).log.own) (grown c).1 ∙ same-last world (user_of world c) (journal_of s (user_of world c)) (grown c).0 (client_at t c).log.own None (near world s t e made before.sights c).high)

      has : (c : ℕ) → Has (client_at t c).progress (last_taken world t c)
      has c =
          subst (Has (client_at t c).progress) (same c) (⊎_elim (λ left. subst (λ (client : Client). Has client.progress (last_of c (journal_of s (user_of world c)) client.log.own)) (sym left) (before.has c)) (λ it. subst (λ (client : Client). Has client.progress (last_of c (journal_of s (user_of world c)) client.log.own)) (sym (it.made before.sights.journals.as_many)) (has-done s c e it.deed it.came (before.has c))) (after-apply world s t e made c))

      lines : (c : ℕ) → LinesHave (client_at t c)
      lines c =
          ⊎_elim (λ left. subst LinesHave (sym left) (before.lines c)) (λ it. subst LinesHave (sym (it.made before.sights.journals.as_many)) (lines-done s c e it.deed it.came (before.has c) (before.lines c))) (after-apply world s t e made c)

  -- before any event
  has-begun : (commands : List Command) → Has (begun_with commands) None
  has-begun commands =
      record {
        waiting = λ pinned is. absurd (none-some pinned is);
        needed = λ pinned is. absurd (none-some pinned is);
        composing = λ is. inl refl;
      }

  lines-at : (plans : List ClientPlan) (place : ℕ) → (get_or (map client_log plans) place no_client_log).lines ≡ []
  lines-at [] place = refl
  lines-at (plan ∷ plans) zero = refl
  lines-at (plan ∷ plans) (suc place) = lines-at plans place

  no-lines : (c : ℕ) → (client_at (start world) c).log.lines ≡ []
  unfolding client_at
  no-lines zero = refl
  no-lines (suc place) = lines-at world.clients place

  versions-start : Versions (start world)
  versions-start =
      record {
        sights = sights-start world;
        has = λ c. let it = begun world c in subst (λ p. Has p (last_taken world (start world) c)) (sym it.1) (subst (λ own. Has (begun_with it.0) (last_of c (journal_of (start world) (user_of world c)) own)) (sym (no-own world c)) (has-begun it.0));
        lines = λ c. subst (λ lines. AllZip HasVersion lines (jobs_at_lines 0 (client_at (start world) c).log.own)) (sym (no-lines c)) (subst (λ own. AllZip HasVersion [] (jobs_at_lines 0 own)) (sym (no-own world c)) tt);
      }

  pub versions-play : (events : List Event) (s : State) → play world events ≡ Some s → Versions s
  versions-play events s made = kept_by_play world Versions versions-apply (start world) s events made versions-start

-- ---- Events without a take of a client

-- what stays
abbrev Stays : ℕ → State → State → Type 0
Stays c s t = AreStill (composes_with (client_at s c)) (composes_with (client_at t c)) × ((client_at t c).progress.taken ≡ None)

module _ (world : World) (c : ℕ) where
  stays-done : (s : State) (e : Event) (deed : Deed) → MayCome world s c e deed → takes c e ≡ false → (client_at s c).progress.taken ≡ None → AreStill (composes_with (client_at s c)) (composes_with (done (client_at s c) e deed)) × ((done (client_at s c) e deed).progress.taken ≡ None)
  unfolding done
  stays-done s e deed came quiet none = stays-does world s c (client_at s c) e came.given deed came.is quiet none

  stays-apply : (s t : State) (e : Event) → apply world s e ≡ Some t → AreAsMany s → takes c e ≡ false → (client_at s c).progress.taken ≡ None → Stays c s t
  stays-apply s t e made many quiet none =
      ⊎_elim (λ left. subst (λ (client : Client). AreStill (composes_with (client_at s c)) (composes_with client) × (client.progress.taken ≡ None)) (sym left) (inl refl, none)) (λ it. subst (λ (client : Client). AreStill (composes_with (client_at s c)) (composes_with client) × (client.progress.taken ≡ None)) (sym (it.made many)) (stays-done s e it.deed it.came quiet none)) (after-apply world s t e made c)

  stays-trans : (a b d : Option Pinned) → AreStill a b → AreStill b d → AreStill a d
  stays-trans a b d one other = ⊎_elim (λ same. ⊎_elim (λ it. inl (same ∙ it)) (λ gone. inr (same ∙ gone)) one) (λ gone. inr gone) other

  stays-from : (events : List Event) (s t : State) → play_from world s events ≡ Some t → AreAsMany s → list_any (takes c) events ≡ false → (client_at s c).progress.taken ≡ None → AreStill (composes_with (client_at s c)) (composes_with (client_at t c))
  stays-from [] s t made many quiet none = inl (ap (λ (state : State). composes_with (client_at state c)) (sym (same_Some s t made)))
  stays-from (e ∷ events) s t made many quiet none =
      let parts = or_parts (takes c e) (list_any (takes c) events) quiet in
      option_and_then_some (λ next. play_from world next events) (apply world s e) t made (λ next here rest. let first = stays-apply s next e here many parts.0 none in stays-trans (composes_with (client_at s c)) (composes_with (client_at next c)) (composes_with (client_at t c)) first.0 (stays-from events next t rest (as-many-apply world s next e here many) parts.1 first.1))

-- ---- The laws

pub data_stay : DataStay
data_stay world events more s t c made further quiet none =
    stays-from world c more s t further (as-many-play world events s made) quiet none

used-done : (client : Client) (e : Event) (last : Option Pinned) (pinned : Pinned) → Has client.progress last → client.progress.taken ≡ Some pinned → AreStill (Some pinned) (composes_with (done client e Steps))
unfolding done
used-done client e last pinned has some = used-stepped client client.progress.rest last pinned refl has some

pub taken_are_used : TakenAreUsed
unfolding apply
taken_are_used world events s t c pinned made here some =
    let before = versions-play world events s made in
    let came = by_client-some world s t c (event.Step c) true Steps stepping here in
    let is : client_at t c ≡ done (client_at s c) (event.Step c) Steps = ap (λ (state : State). client_at state c) (sym came.1) ∙ own-did world s c (event.Step c) Steps came.0.number before.sights.journals.as_many in
    subst (λ (client : Client). AreStill (Some pinned) (composes_with client)) (sym is) (used-done (client_at s c) (event.Step c) (last_taken world s c) pinned (before.has c) some)

pub last_is_used : LastIsUsed
last_is_used world events s c made =
    let it = (versions-play world events s made).has c in
    record { waiting = it.waiting; composing = it.composing }

pub lines_have_version : LinesHaveVersion
lines_have_version world events s c made = (versions-play world events s made).lines c

pub takes_are_typed : TakesAreTyped
unfolding apply may
takes_are_typed world s t c job here =
    let client = client_at s c in
    let p = client.progress in
    let journal = journal_of s (user_of world c) in
    let came = by_client-some world s t c (event.Take c job) (is_published s.logs.jobs job) (Takes (data_of world (user_of world c) job journal) (length journal)) (taking job) here in
    let first = and_parts (lacks_take p) (not (lacks_learn p) && nat_le p.seen job) came.0.may_come in
    let second = and_parts (not (lacks_learn p)) (nat_le p.seen job) first.1 in
    let taken = and_parts (is_taken (need_of p.session p.rest)) (is_none p.taken) first.0 in
    let found = typed-next p.session p.rest taken.0 in
    record {
      letter = found.0;
      rest = found.1;
      next = found.2;
      begins = ⊎_elim (λ precomposition. inl precomposition) (λ conversion. inr (conversion.0, conversion.1, waited-for p conversion.1 (not-true (lacks_learn p) second.0))) found.3;
    }

-- What the clients of a play saw.
use Rattle.std.proofs.Common.{◌≡◌, refl, sym, ap, subst, ◌∙◌, ⊎_elim, ℕ, ◌+◌, ◌≤◌, Bool, true, false, List, [], ◌∷◌, ◌++◌, Option, Some, None, length, map, take, arith, filter_map}
use Rattle.std.specs.Prelude.{◌&&◌, IsTrue, if◌then◌else◌, nat_le, not}
use Rattle.std.specs.List.{cons_option}
use Rattle.std.specs.Option.{option_map_or}
use Rattle.std.proofs.lemmas.Bool.{and_parts, false≢true, leb-true}
use Rattle.std.proofs.lemmas.List.{length-append, map-append}
use Rattle.std.proofs.lemmas.List.Elements.{filter_map-append}
use Rattle.std.proofs.lemmas.Option.{none-some, same_Some}
use Rattle.mz_base.specs.declared.event.Event.{Event}
use Rattle.mz_base.specs.declared.event.Event.TheVariants as event
use Rattle.mz_base.specs.declared.logs.CertEntry.{CertEntry}
use Rattle.mz_base.specs.declared.logs.Own.{Own}
use Rattle.mz_base.specs.declared.logs.UserEntry.{UserEntry}
use Rattle.keys.specs.declared.command.Command.{Command}
use Rattle.session_meaning.specs.Steps.{step}
use Rattle.run_meaning.specs.Deeds.{Deed, Takes, awaited_by, certified_by, does, done, lacks_learn, lacks_take, may, over, stepped, with_certificate}
use Rattle.run_meaning.specs.GrowthLaws.{IsGrown}
use Rattle.run_meaning.specs.Jobs.{is_published}
use Rattle.run_meaning.specs.JournalLaws.{IsUserThere, learns_in}
use Rattle.run_meaning.specs.Plays.{apply, play}
use Rattle.run_meaning.specs.SeenLaws.{LearnsAreSeen, NamedIsPublished, NamedNeverFall, SeenOnlyGrow, TakesSeeAll, is_take, jobs_named, journals_seen, learns_before, learns_by, length_seen, named_by}
use Rattle.run_meaning.specs.States.{Client, State, client_at, journal_of, start}
use Rattle.run_meaning.specs.Users.{data_of}
use Rattle.run_meaning.specs.Worlds.{World, user_of}
use Rattle.run_meaning.proofs.ClientLemmas.{as-many-apply, own-did}
use Rattle.run_meaning.proofs.EventKinds.{IsDeed, MayCome, awaiting, by_client-some, by_kind, ending, finding_none, kept_by_play, learning, stepping, taking}
use Rattle.run_meaning.proofs.GrowthLemmas.{grown-apply}
use Rattle.run_meaning.proofs.JournalLemmas.{Journals, journals-apply, journals-start}
use Rattle.run_meaning.proofs.RisingLemmas.{IsRising, all-seen, before-more, counted-learns, grown-parts, rising-more, rising-same, rising-up, same-parts, seen-more}
use Rattle.run_meaning.proofs.SoloLemmas.{after-apply, done-own, no-own, own_of}

-- ---- What an event names

named-deed : (world : World) (s : State) (c : ℕ) (e : Event) (given : Bool) (deed : Deed) (job : ℕ) → IsDeed world s c e given deed → IsTrue given → named_by e ≡ Some job → IsTrue (is_published s.logs.jobs job)
named-deed world s c e given deed job (taking other) there is = subst (λ n. IsTrue (is_published s.logs.jobs n)) (same_Some other job is) there
named-deed world s c e given deed job (awaiting other) there is = subst (λ n. IsTrue (is_published s.logs.jobs n)) (same_Some other job is) there
named-deed world s c e given deed job learning there is = absurd (none-some job is)
named-deed world s c e given deed job stepping there is = absurd (none-some job is)
named-deed world s c e given deed job finding_none there is = absurd (none-some job is)
named-deed world s c e given deed job ending there is = absurd (none-some job is)

pub named_is_published : NamedIsPublished
named_is_published world s t e job made is =
    by_kind world (λ s e t. (job : ℕ) → named_by e ≡ Some job → IsTrue (is_published s.logs.jobs job)) (λ s j o legal job is. absurd (none-some job is)) (λ s legal job is. absurd (none-some job is)) (λ s user reload legal job is. absurd (none-some job is)) (λ s c e deed came job is. named-deed world s c e came.given deed job came.is came.there is) s t e made job is

-- ---- One deed

-- a step sees nothing
stepped-seen : (client : Client) (rest : List Command) → (stepped client rest).progress.seen ≡ client.progress.seen
stepped-seen client [] = refl
stepped-seen client (c ∷ rest) =
    let made = step client.progress.session c client.progress.taken in
    by_certificate (over client made.session made.line) (certified_by client client.progress.rest)
  where
    by_certificate : (next : Client) (o : Option CertEntry) → (with_certificate next o).progress.seen ≡ next.progress.seen
    by_certificate next None = refl
    by_certificate next (Some made) = refl

wait-passes : (f : ℕ → Bool) (o : Option ℕ) → option_map_or f o false ≡ true → (wanted : ℕ) × (f wanted ≡ true)
wait-passes f None is = absurd (false≢true is)
wait-passes f (Some wanted) is = (wanted, is)

rising-jobs : (world : World) (s : State) (client : Client) (c : ℕ) (e : Event) (given : Bool) (deed : Deed) (jobs : List ℕ) → IsDeed world s c e given deed → IsTrue (may client deed) → IsRising client.progress.seen jobs → IsRising (does client deed).progress.seen (jobs ++ cons_option (named_by e) [])
unfolding may
rising-jobs world s client c e given deed jobs learning comes are = rising-same client.progress.seen jobs are
rising-jobs world s client c e given deed jobs (taking job) comes are =
    let first = and_parts (lacks_take client.progress) (not (lacks_learn client.progress) && nat_le client.progress.seen job) comes in
    let second = and_parts (not (lacks_learn client.progress)) (nat_le client.progress.seen job) first.1 in
    rising-more client.progress.seen job jobs (leb-true client.progress.seen job second.1) are
rising-jobs world s client c e given deed jobs stepping comes are =
    subst (λ n. IsRising n (jobs ++ [])) (sym (stepped-seen client client.progress.rest)) (rising-same client.progress.seen jobs are)
rising-jobs world s client c e given deed jobs (awaiting job) comes are =
    let found = wait-passes (λ wanted. nat_le wanted job && nat_le client.progress.seen job) (awaited_by client.progress.rest) comes in
    let parts = and_parts (nat_le found.0 job) (nat_le client.progress.seen job) found.1 in
    rising-more client.progress.seen job jobs (leb-true client.progress.seen job parts.1) are
rising-jobs world s client c e given deed jobs finding_none comes are = rising-same client.progress.seen jobs are
rising-jobs world s client c e given deed jobs ending comes are = rising-same client.progress.seen jobs are

rising-lengths : (world : World) (s : State) (c : ℕ) (e : Event) (given : Bool) (deed : Deed) (ns : List ℕ) → IsDeed world s c e given deed → IsRising (length (journal_of s (user_of world c))) ns → IsRising (length (journal_of s (user_of world c))) (ns ++ cons_option (length_seen (own_of e deed)) [])
rising-lengths world s c e given deed ns (taking job) are =
    let n = length (journal_of s (user_of world c)) in
    rising-more n n ns (let same : n ≤ n = omega arith in same) are
rising-lengths world s c e given deed ns learning are = rising-same (length (journal_of s (user_of world c))) ns are
rising-lengths world s c e given deed ns stepping are = rising-same (length (journal_of s (user_of world c))) ns are
rising-lengths world s c e given deed ns (awaiting job) are = rising-same (length (journal_of s (user_of world c))) ns are
rising-lengths world s c e given deed ns finding_none are = rising-same (length (journal_of s (user_of world c))) ns are
rising-lengths world s c e given deed ns ending are = rising-same (length (journal_of s (user_of world c))) ns are

-- what a deed sees of the journal, and how many learns came before it
sees-learns : (world : World) (s : State) (c : ℕ) (e : Event) (given : Bool) (deed : Deed) (learns : ℕ) → IsDeed world s c e given deed → learns_by c (journal_of s (user_of world c)) ≡ learns → map (learns_by c) (map (λ n. take n (journal_of s (user_of world c))) (cons_option (length_seen (own_of e deed)) [])) ≡ (if is_take e then learns ∷ [] else [])
sees-learns world s c e given deed learns (taking job) all =
    ap (λ n. n ∷ []) (ap (learns_by c) (all-seen (journal_of s (user_of world c))) ∙ all)
sees-learns world s c e given deed learns learning all = refl
sees-learns world s c e given deed learns stepping all = refl
sees-learns world s c e given deed learns (awaiting job) all = refl
sees-learns world s c e given deed learns finding_none all = refl
sees-learns world s c e given deed learns ending all = refl

-- ---- Each event

abbrev pub lengths_seen : List Own → List ℕ
lengths_seen own = filter_map length_seen own

module _ (world : World) where
  abbrev journal : State → ℕ → List UserEntry
  journal s c = journal_of s (user_of world c)

  abbrev AreSeen : ℕ → Client → List UserEntry → Type 0
  AreSeen c client journal = map (learns_by c) (journals_seen journal client.log.own) ≡ learns_before 0 client.log.own

  pub record Sights (s : State) : Type 0 where
    pub journals : Journals world s
    pub jobs : (c : ℕ) → IsRising (client_at s c).progress.seen (jobs_named (client_at s c).log.own)
    pub lengths : (c : ℕ) → IsRising (length (journal s c)) (lengths_seen (client_at s c).log.own)
    pub learns : (c : ℕ) → IsUserThere world c → AreSeen c (client_at s c) (journal s c)

  jobs-done : (s : State) (c : ℕ) (e : Event) (deed : Deed) → MayCome world s c e deed → IsRising (client_at s c).progress.seen (jobs_named (client_at s c).log.own) → IsRising (done (client_at s c) e deed).progress.seen (jobs_named (done (client_at s c) e deed).log.own)
  unfolding done
  jobs-done s c e deed came are =
      let client = client_at s c in
      subst (λ own. IsRising (does client deed).progress.seen (jobs_named own)) (sym (done-own client e deed)) (subst (IsRising (does client deed).progress.seen) (sym (filter_map-append (λ (o : Own). named_by o.event) client.log.own (own_of e deed ∷ []))) (rising-jobs world s client c e came.given deed (jobs_named client.log.own) came.is came.may_come are))

  lengths-done : (s : State) (c : ℕ) (e : Event) (deed : Deed) → MayCome world s c e deed → IsRising (length (journal s c)) (lengths_seen (client_at s c).log.own) → IsRising (length (journal s c)) (lengths_seen (done (client_at s c) e deed).log.own)
  lengths-done s c e deed came are =
      let client = client_at s c in
      subst (λ own. IsRising (length (journal s c)) (lengths_seen own)) (sym (done-own client e deed)) (subst (IsRising (length (journal s c))) (sym (filter_map-append length_seen client.log.own (own_of e deed ∷ []))) (rising-lengths world s c e came.given deed (lengths_seen client.log.own) came.is are))

  -- the journal has as many learns as the client made
  all-learns : (s : State) (c : ℕ) → Journals world s → IsUserThere world c → learns_by c (journal s c) ≡ learns_in (client_at s c).log.own
  all-learns s c journals there =
      let it = journals.own c there in
      counted-learns c it.learned (client_at s c).progress.ended _ it.are ∙ it.as_many ∙ it.counted

  learns-done : (s : State) (c : ℕ) (e : Event) (deed : Deed) → MayCome world s c e deed → Journals world s → IsUserThere world c → AreSeen c (client_at s c) (journal s c) → AreSeen c (done (client_at s c) e deed) (journal s c)
  learns-done s c e deed came journals there are =
      let client = client_at s c in
      let own = own_of e deed in
      let seen : map (learns_by c) (journals_seen (journal s c) (client.log.own ++ own ∷ [])) ≡ map (learns_by c) (journals_seen (journal s c) client.log.own) ++ map (learns_by c) (map (λ n. take n (journal s c)) (cons_option (length_seen own) [])) = ap (map (learns_by c)) (seen-more (journal s c) client.log.own own) ∙ map-append (learns_by c) (journals_seen (journal s c) client.log.own) (map (λ n. take n (journal s c)) (cons_option (length_seen own) [])) in
      let last = sees-learns world s c e came.given deed (0 + learns_in client.log.own) came.is (all-learns s c journals there ∙ (let same : learns_in client.log.own ≡ 0 + learns_in client.log.own = omega arith in same)) in
      let whole : map (learns_by c) (journals_seen (journal s c) (client.log.own ++ own ∷ [])) ≡ learns_before 0 (client.log.own ++ own ∷ []) = seen ∙ ap (λ front. front ++ map (learns_by c) (map (λ n. take n (journal s c)) (cons_option (length_seen own) []))) are ∙ ap (λ rest. learns_before 0 client.log.own ++ rest) last ∙ sym (before-more 0 client.log.own own) in
      subst (λ own. map (learns_by c) (journals_seen (journal s c) own) ≡ learns_before 0 own) (sym (done-own client e deed)) whole

  -- what holds of a client after its event still holds of a journal that has grown
  lengths-grown : (before after : List UserEntry) (more : List UserEntry) (ns : List ℕ) → after ≡ before ++ more → IsRising (length before) ns → IsRising (length after) ns
  lengths-grown before after more ns grown are =
      let long : length after ≡ length before + length more = ap length grown ∙ length-append before more in
      rising-up (length before) (length after) ns (omega (arith, long)) are

  learns-grown : (c : ℕ) (client : Client) (before after more : List UserEntry) → after ≡ before ++ more → IsRising (length before) (lengths_seen client.log.own) → AreSeen c client before → AreSeen c client after
  learns-grown c client before after more grown within are =
      ap (λ journal. map (learns_by c) (journals_seen journal client.log.own)) grown ∙ ap (map (learns_by c)) (same-parts before more (lengths_seen client.log.own) within.high) ∙ are

  -- what a client saw after an event is of the journal before it
  pub near : (s t : State) (e : Event) → apply world s e ≡ Some t → Sights s → (c : ℕ) → IsRising (length (journal s c)) (lengths_seen (client_at t c).log.own)
  near s t e made before c =
      ⊎_elim (λ same. subst (λ (client : Client). IsRising (length (journal s c)) (lengths_seen client.log.own)) (sym same) (before.lengths c)) (λ has. subst (λ (client : Client). IsRising (length (journal s c)) (lengths_seen client.log.own)) (sym (has.made before.journals.as_many)) (lengths-done s c e has.deed has.came (before.lengths c))) (after-apply world s t e made c)

  pub sights-apply : (s t : State) (e : Event) → apply world s e ≡ Some t → Sights s → Sights t
  sights-apply s t e made before =
      record { journals = journals-apply world s t e made (as-many-apply world s t e made before.journals.as_many) before.journals; jobs = jobs; lengths = lengths; learns = learns }
    where
      grown : (c : ℕ) → IsGrown (journal s c) (journal t c)
      grown c = (grown-apply world s t e made).journals (user_of world c)

      jobs : (c : ℕ) → IsRising (client_at t c).progress.seen (jobs_named (client_at t c).log.own)
      jobs c =
          ⊎_elim (λ same. subst (λ (client : Client). IsRising client.progress.seen (jobs_named client.log.own)) (sym same) (before.jobs c)) (λ has. subst (λ (client : Client). IsRising client.progress.seen (jobs_named client.log.own)) (sym (has.made before.journals.as_many)) (jobs-done s c e has.deed has.came (before.jobs c))) (after-apply world s t e made c)

      lengths : (c : ℕ) → IsRising (length (journal t c)) (lengths_seen (client_at t c).log.own)
      lengths c = lengths-grown (journal s c) (journal t c) (grown c).0 (lengths_seen (client_at t c).log.own) (grown c).1 (near s t e made before c)

      learns : (c : ℕ) → IsUserThere world c → AreSeen c (client_at t c) (journal t c)
      learns c there =
          learns-grown c (client_at t c) (journal s c) (journal t c) (grown c).0 (grown c).1 (near s t e made before c) (⊎_elim (λ same. subst (λ (client : Client). AreSeen c client (journal s c)) (sym same) (before.learns c there)) (λ has. subst (λ (client : Client). AreSeen c client (journal s c)) (sym (has.made before.journals.as_many)) (learns-done s c e has.deed has.came before.journals there (before.learns c there))) (after-apply world s t e made c))

  none-rise : (top : ℕ) → IsRising top []
  none-rise top = record { high = λ k d less. absurd (omega (arith, less)); rise = λ i j d less inside. absurd (omega (arith, inside)) }

  pub sights-start : Sights (start world)
  sights-start =
      record {
        journals = journals-start world;
        jobs = λ c. subst (λ own. IsRising (client_at (start world) c).progress.seen (jobs_named own)) (sym (no-own world c)) (none-rise (client_at (start world) c).progress.seen);
        lengths = λ c. subst (λ own. IsRising (length (journal (start world) c)) (lengths_seen own)) (sym (no-own world c)) (none-rise (length (journal (start world) c)));
        learns = λ c there. subst (λ own. map (learns_by c) (journals_seen (journal (start world) c) own) ≡ learns_before 0 own) (sym (no-own world c)) refl;
      }

  pub sights-play : (events : List Event) (s : State) → play world events ≡ Some s → Sights s
  sights-play events s made = kept_by_play world Sights sights-apply (start world) s events made sights-start

-- ---- The laws

pub named_never_fall : NamedNeverFall
named_never_fall world events s c made = ((sights-play world events s made).jobs c).rise

pub seen_only_grow : SeenOnlyGrow
seen_only_grow world events s c made =
    grown-parts (journal_of s (user_of world c)) (lengths_seen (client_at s c).log.own) ((sights-play world events s made).lengths c).rise

pub learns_are_seen : LearnsAreSeen
learns_are_seen world events s c made there = (sights-play world events s made).learns c there

pub takes_see_all : TakesSeeAll
unfolding apply
takes_see_all world events s t c job made here =
    let before = sights-play world events s made in
    let journal = journal_of s (user_of world c) in
    let deed = Takes (data_of world (user_of world c) job journal) (length journal) in
    let came = by_client-some world s t c (event.Take c job) (is_published s.logs.jobs job) deed (taking job) here in
    let client = client_at s c in
    let own = own_of (event.Take c job) deed in
    let is : client_at t c ≡ done client (event.Take c job) deed = ap (λ (state : State). client_at state c) (sym came.1) ∙ own-did world s c (event.Take c job) deed came.0.number before.journals.as_many in
    let grown = (grown-apply world s t (event.Take c job) here).journals (user_of world c) in
    let within = lengths-done world s c (event.Take c job) deed came.0 (before.lengths c) in
    ap (λ (after : Client). journals_seen (journal_of t (user_of world c)) after.log.own) is
    ∙ ap (λ entries. journals_seen entries (done client (event.Take c job) deed).log.own) grown.1
    ∙ same-parts journal grown.0 (lengths_seen (done client (event.Take c job) deed).log.own) within.high
    ∙ ap (journals_seen journal) (done-own client (event.Take c job) deed)
    ∙ seen-more journal client.log.own own
    ∙ ap (λ last. journals_seen journal client.log.own ++ last ∷ []) (all-seen journal)

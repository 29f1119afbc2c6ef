-- What the journals of a play have of a client.
use Rattle.std.proofs.Common.{◌≡◌, ◌≢◌, refl, sym, ap, subst, ◌∙◌, ⊎_elim, ℕ, zero, suc, ◌+◌, true, false, List, [], ◌∷◌, ◌++◌, Some, length, get_or, map, append-nil}
use Rattle.std.specs.Prelude.{◌&&◌, IsTrue, is_none, nat_le, nat_lt, not}
use Rattle.std.proofs.lemmas.Bool.{and_cases, and_parts, cases_eq, eq-eqb, false≢true, ne_eqb, not-false, not-true, true≢false}
use Rattle.std.proofs.lemmas.List.{length-map}
use Rattle.std.proofs.lemmas.List.Elements.{filter-append}
use Rattle.mz_base.specs.declared.event.Event.{Event}
use Rattle.mz_base.specs.declared.event.Event.TheVariants as event
use Rattle.mz_base.specs.declared.event.Outcome.{Outcome}
use Rattle.mz_base.specs.declared.logs.UserEntry.{UserEntry}
use Rattle.mz_base.specs.declared.logs.UserEntry.TheVariants as entry
use Rattle.mz_base.specs.declared.logs.UserLog.{UserLog}
use Rattle.keys.specs.declared.command.Command.{Command}
use Rattle.session_meaning.specs.Laws.{is_learned}
use Rattle.run_meaning.specs.Deeds.{Deed, Awaits, Ends, FindsNone, Learns, Steps, Takes, awaited_by, done, entries_of, is_empty, lacks_learn, lacks_take, may, need_of, pairs_of}
use Rattle.run_meaning.specs.JournalLaws.{CommitsAreLearned, EntriesAreNumbered, IsUserThere, LearnsAreEntered, OthersHaveNone, UsersAreThere, entries_by, is_by, its_entries}
use Rattle.run_meaning.specs.Numbers.{is_number}
use Rattle.run_meaning.specs.Plays.{apply, did, play, with_entries}
use Rattle.run_meaning.specs.States.{Client, Progress, State, begun_with, client_at, journal_of, no_progress, no_user_log, start, user_log}
use Rattle.run_meaning.specs.Worlds.{ClientPlan, World, no_client, user_of}
use Rattle.run_meaning.proofs.ClientLemmas.{AreAsMany, as-many-apply, as-many-start, own-did}
use Rattle.run_meaning.proofs.EntryLemmas.{Enters, enters-does}
use Rattle.run_meaning.proofs.EventKinds.{MayCome, after_close, after_job, after_reload, by_client-some, by_kind, kept_by_play, learning, stepping}
use Rattle.run_meaning.proofs.GrowthLemmas.{entries-with, entries_at, others-did}
use Rattle.run_meaning.proofs.LogAnswers.{empty-journals}
use Rattle.run_meaning.proofs.NumberLemmas.{count, number_at, written}
use Rattle.run_meaning.proofs.SoloLemmas.{done-own, no-own, own_of}

-- ---- Entries of one client among those of another

by-other : (client : Client) (deed : Deed) (c : ℕ) → client.number ≢ c → entries_by c (entries_of client deed) ≡ []
by-other client Learns c apart = rw (ne_eqb client.number c apart) refl
by-other client Ends c apart = rw (ne_eqb client.number c apart) refl
by-other client (Takes pinned entries) c apart = refl
by-other client (Awaits job) c apart = refl
by-other client (FindsNone newest) c apart = refl
by-other client Steps c apart = refl

by-own : (client : Client) (deed : Deed) → entries_by client.number (entries_of client deed) ≡ entries_of client deed
by-own client Learns = rw (eq-eqb client.number client.number refl) refl
by-own client Ends = rw (eq-eqb client.number client.number refl) refl
by-own client (Takes pinned entries) = refl
by-own client (Awaits job) = refl
by-own client (FindsNone newest) = refl
by-own client Steps = refl

-- ---- Entries of one client in a journal with more

-- what others enter adds none
pub by-quiet : (users : List UserLog) (user : ℕ) (entries : List UserEntry) (other c : ℕ) → entries_by c entries ≡ [] → entries_by c (entries_at (with_entries users user entries) other) ≡ entries_by c (entries_at users other)
by-quiet users user entries other c none =
    ⊎_elim (λ same. ap (entries_by c) same) (λ more. ap (entries_by c) more.1 ∙ filter-append (is_by c) (entries_at users other) entries ∙ ap (λ xs. entries_by c (entries_at users other) ++ xs) none ∙ append-nil (entries_by c (entries_at users other))) (entries-with users user entries other)

-- nor does what goes into another journal
by-apart : (users : List UserLog) (user : ℕ) (entries : List UserEntry) (other c : ℕ) → user ≢ other → entries_by c (entries_at (with_entries users user entries) other) ≡ entries_by c (entries_at users other)
by-apart users user entries other c apart =
    ⊎_elim (λ same. ap (entries_by c) same) (λ more. absurd (apart more.0)) (entries-with users user entries other)

-- further entries of a user that is there
pub entries-there : (users : List UserLog) (user : ℕ) (entries : List UserEntry) → IsTrue (is_number users user) → entries_at (with_entries users user entries) user ≡ entries_at users user ++ entries
entries-there users user [] there = sym (append-nil (entries_at users user))
entries-there users user (first ∷ more) there = ap (λ (log : UserLog). log.entries) (written no_user_log users user _ there)

-- there are as many journals as users
pub users-entries : (users : List UserLog) (user : ℕ) (entries : List UserEntry) → length (with_entries users user entries) ≡ length users
users-entries users user [] = refl
users-entries users user (first ∷ more) = count users user _

-- ---- Each event

module _ (world : World) where
  abbrev Held : State → ℕ → Type 0
  Held s c = Enters c (client_at s c).progress (client_at s c).log.own (its_entries world s c)

  pub record Journals (s : State) : Type 0 where
    pub as_many : AreAsMany s
    pub users : length s.logs.users ≡ length world.users
    pub own : (c : ℕ) → IsUserThere world c → Held s c
    pub others : (c user : ℕ) → user ≢ user_of world c → entries_by c (journal_of s user) ≡ []

  journals-job : (s : State) (job : ℕ) (o : Outcome) → Journals s → Journals (after_job world s job o)
  unfolding client_at journal_of
  journals-job s job o before =
      record { as_many = before.as_many; users = before.users; own = before.own; others = before.others }

  journals-close : (s : State) → Journals s → Journals (after_close s)
  unfolding client_at journal_of
  journals-close s before =
      record { as_many = before.as_many; users = before.users; own = before.own; others = before.others }

  journals-reload : (s : State) (user reload : ℕ) → Journals s → Journals (after_reload s user reload)
  unfolding client_at journal_of
  journals-reload s user reload before =
      let same : (c other : ℕ) → entries_by c (entries_at (with_entries s.logs.users user (entry.Dict reload ∷ [])) other) ≡ entries_by c (entries_at s.logs.users other) = λ c other. by-quiet s.logs.users user (entry.Dict reload ∷ []) other c refl in
      record {
        as_many = before.as_many;
        users = users-entries s.logs.users user (entry.Dict reload ∷ []) ∙ before.users;
        own = λ c there. subst (λ es. Enters c (client_at s c).progress (client_at s c).log.own es) (sym (same c (user_of world c))) (before.own c there);
        others = λ c other apart. same c other ∙ before.others c other apart;
      }

  user-number : (s : State) (c : ℕ) → length s.logs.users ≡ length world.users → IsUserThere world c → IsTrue (is_number s.logs.users (user_of world c))
  user-number s c same there = subst (λ n. (nat_lt 0 (user_of world c) && nat_le (user_of world c) n) ≡ true) (sym same) there

  -- the entries of a client after a deed of it
  pub its-did : (s : State) (c : ℕ) (e : Event) (deed : Deed) → length s.logs.users ≡ length world.users → IsUserThere world c → its_entries world (did world s c deed e) c ≡ its_entries world s c ++ entries_of (client_at s c) deed
  unfolding did journal_of client_at
  its-did s c e deed same there =
      let client = client_at s c in
      let journal = entries_at s.logs.users (user_of world c) in
      ap (entries_by c) (entries-there s.logs.users (user_of world c) (entries_of client deed) (user-number s c same there))
      ∙ filter-append (is_by c) journal (entries_of client deed)
      ∙ ap (λ xs. entries_by c journal ++ xs) (by-own client deed)

  held-own : (s : State) (c : ℕ) (e : Event) (deed : Deed) → MayCome world s c e deed → Journals s → IsUserThere world c → Held (did world s c deed e) c
  unfolding client_at done
  held-own s c e deed came before there =
      let client = client_at s c in
      let after = did world s c deed e in
      let own = own_of e deed in
      let made : Enters c (done client e deed).progress (client.log.own ++ own ∷ []) (its_entries world s c ++ entries_of client deed) = enters-does world s client (its_entries world s c) own c came.given deed came.is came.may_come (before.own c there) in
      let noted : Enters c (done client e deed).progress (done client e deed).log.own (its_entries world s c ++ entries_of client deed) = subst (λ own. Enters c (done client e deed).progress own (its_entries world s c ++ entries_of client deed)) (sym (done-own client e deed)) made in
      let entered : Enters c (done client e deed).progress (done client e deed).log.own (its_entries world after c) = subst (λ es. Enters c (done client e deed).progress (done client e deed).log.own es) (sym (its-did s c e deed before.users there)) noted in
      subst (λ (next : Client). Enters c next.progress next.log.own (its_entries world after c)) (sym (own-did world s c e deed came.number before.as_many)) entered

  -- entries of a client after a deed of another
  pub its-other : (s : State) (d c user : ℕ) (e : Event) (deed : Deed) → d ≢ c → entries_by c (journal_of (did world s d deed e) user) ≡ entries_by c (journal_of s user)
  unfolding did journal_of client_at
  its-other s d c user e deed apart = by-quiet s.logs.users (user_of world d) (entries_of (client_at s d) deed) user c (by-other (client_at s d) deed c apart)

  its-elsewhere : (s : State) (d c user : ℕ) (e : Event) (deed : Deed) → user_of world d ≢ user → entries_by c (journal_of (did world s d deed e) user) ≡ entries_by c (journal_of s user)
  unfolding did journal_of
  its-elsewhere s d c user e deed apart = by-apart s.logs.users (user_of world d) (entries_of (client_at s d) deed) user c apart

  users-did : (s : State) (c : ℕ) (e : Event) (deed : Deed) → length (did world s c deed e).logs.users ≡ length s.logs.users
  unfolding did
  users-did s c e deed = users-entries s.logs.users (user_of world c) (entries_of (client_at s c) deed)

  journals-did : (s : State) (d : ℕ) (e : Event) (deed : Deed) → MayCome world s d e deed → Journals s → AreAsMany (did world s d deed e) → Journals (did world s d deed e)
  journals-did s d e deed came before many =
      record {
        as_many = many;
        users = users-did s d e deed ∙ before.users;
        own = own;
        others = others;
      }
    where
      after : State
      after = did world s d deed e

      own : (c : ℕ) → IsUserThere world c → Held after c
      own c there =
          ⊎_elim (λ same. subst (λ n. IsUserThere world n → Held after n) same (held-own s d e deed came before) there) (λ apart. subst (λ (client : Client). Enters c client.progress client.log.own (its_entries world after c)) (sym (others-did world s d c e deed apart)) (subst (λ es. Enters c (client_at s c).progress (client_at s c).log.own es) (sym (its-other s d c (user_of world c) e deed apart)) (before.own c there))) (cases_eq d c)

      others : (c user : ℕ) → user ≢ user_of world c → entries_by c (journal_of after user) ≡ []
      others c user apart =
          ⊎_elim (λ same. its-elsewhere s d c user e deed (λ here. apart (sym here ∙ ap (user_of world) same)) ∙ before.others c user apart) (λ unequal. its-other s d c user e deed unequal ∙ before.others c user apart) (cases_eq d c)

  pub journals-apply : (s t : State) (e : Event) → apply world s e ≡ Some t → AreAsMany t → Journals s → Journals t
  journals-apply =
      by_kind world (λ s e t. AreAsMany t → Journals s → Journals t) (λ s job o legal many. journals-job s job o) (λ s legal many. journals-close s) (λ s user reload legal many. journals-reload s user reload) (λ s c e deed came many before. journals-did s c e deed came before many)

  -- a client that has not begun
  begun-at : (plans : List ClientPlan) (place : ℕ) → (commands : List Command) × (get_or (map (λ (plan : ClientPlan). begun_with plan.commands) plans) place no_progress ≡ begun_with commands)
  begun-at [] place = ([], refl)
  begun-at (plan ∷ plans) zero = (plan.commands, refl)
  begun-at (plan ∷ plans) (suc place) = begun-at plans place

  pub begun : (c : ℕ) → (commands : List Command) × ((client_at (start world) c).progress ≡ begun_with commands)
  unfolding client_at
  begun zero = ([], refl)
  begun (suc place) = begun-at world.clients place

  pub journals-start : Journals (start world)
  journals-start =
      record {
        as_many = as-many-start world;
        users = length-map world.users user_log;
        own = λ c there. let it = begun c in subst (λ p. Enters c p (client_at (start world) c).log.own (its_entries world (start world) c)) (sym it.1) (subst (λ own. Enters c (begun_with it.0) own (its_entries world (start world) c)) (sym (no-own world c)) (subst (λ journal. Enters c (begun_with it.0) [] (entries_by c journal)) (sym (empty-journals world (user_of world c))) (record { counted = refl; learned = []; as_many = refl; are = refl; idle = λ is. absurd (false≢true is); waits = λ is. absurd (false≢true is) })));
        others = λ c user apart. ap (entries_by c) (empty-journals world user);
      }

  pub journals-play : (events : List Event) (s : State) → play world events ≡ Some s → Journals s
  journals-play events s made =
      kept_by_play world Journals (λ s t e here before. journals-apply s t e here (as-many-apply world s t e here before.as_many) before) (start world) s events made journals-start

-- ---- The laws

pub entries_are_numbered : EntriesAreNumbered
unfolding client_at
entries_are_numbered world events s c made there =
    let it = (journals-play world events s made).own c there in
    record { learned = it.learned; as_many = it.as_many ∙ it.counted; are = it.are }

pub others_have_none : OthersHaveNone
others_have_none world events s c user made apart = (journals-play world events s made).others c user apart

pub learns_are_entered : LearnsAreEntered
unfolding apply may client_at
learns_are_entered world events s t c made here there =
    let before = journals-play world events s made in
    let came = by_client-some world s t c (event.Learn c) true Learns learning here in
    let client = client_at s c in
    let p = client.progress in
    let parts = and_parts (is_learned (need_of p.session p.rest)) (not p.learned) came.0.may_come in
    let entered = its-did world s c (event.Learn c) Learns before.users there in
    let counted = ap (λ n. its_entries world s c ++ entry.Learn c (n + 1) (pairs_of p.session p.rest) ∷ []) (before.own c there).counted in
    record {
      commits = parts.0;
      once = not-true p.learned parts.1;
      enters = ap (λ (state : State). its_entries world state c) (sym came.1) ∙ entered ∙ counted;
    }

-- what a step with a commit waited for
pub waited-for : (p : Progress) → is_learned (need_of p.session p.rest) ≡ true → lacks_learn p ≡ false → p.learned ≡ true
waited-for p commits lacks =
    ⊎_elim (λ no. absurd (true≢false (sym commits ∙ no))) (λ no. not-false p.learned no) (and_cases (is_learned (need_of p.session p.rest)) (not p.learned) lacks)

pub commits_are_learned : CommitsAreLearned
unfolding apply may client_at
commits_are_learned world events s t c made here there commits =
    let held = (journals-play world events s made).own c there in
    let came = by_client-some world s t c (event.Step c) true Steps stepping here in
    let p = (client_at s c).progress in
    let second = and_parts (not (is_empty p.rest)) (is_none (awaited_by p.rest) && (not (lacks_learn p) && not (lacks_take p))) came.0.may_come in
    let third = and_parts (is_none (awaited_by p.rest)) (not (lacks_learn p) && not (lacks_take p)) second.1 in
    let fourth = and_parts (not (lacks_learn p)) (not (lacks_take p)) third.1 in
    let it = held.waits (waited-for p commits (not-true (lacks_learn p) fourth.0)) in
    (it.before, it.last ∙ ap (λ n. it.before ++ entry.Learn c n (pairs_of p.session p.rest) ∷ []) held.counted)

pub users_are_there : UsersAreThere
users_are_there world zero can there = absurd (false≢true there)
users_are_there world (suc place) can there = can.users_there place no_client (number_at world.clients place there)

-- The logs of a play name only users, clients and reloads that are there.
use Rattle.std.proofs.Common.{◌≡◌, refl, sym, ap, subst, ◌∙◌, ⊎_elim, ℕ, zero, suc, Bool, true, false, List, [], ◌∷◌, Option, Some, None, cond, length, map, arith}
use Rattle.std.specs.Prelude.{All, IsTrue, not}
use Rattle.std.proofs.Math.ListN.{get_or, get_or-map}
use Rattle.std.proofs.Math.Seq.{map-set_same}
use Rattle.std.proofs.lemmas.Bool.{and_parts}
use Rattle.std.proofs.lemmas.List.{length-map}
use Rattle.std.proofs.lemmas.List.Elements.{All-append, All-cons, All-filter, All-from_get_or, All-get_or, All-map, All-nil, All-push, All-weaker}
use Rattle.mz_base.specs.declared.event.Event.{Event}
use Rattle.mz_base.specs.declared.event.Event.TheVariants as event
use Rattle.mz_base.specs.declared.event.Outcome.{Outcome}
use Rattle.mz_base.specs.declared.logs.CertEntry.{CertEntry}
use Rattle.mz_base.specs.declared.logs.ClientLog.{ClientLog}
use Rattle.mz_base.specs.declared.logs.DictNote.{DictNote}
use Rattle.mz_base.specs.declared.logs.Logs.{Logs}
use Rattle.mz_base.specs.declared.logs.UserEntry.{UserEntry}
use Rattle.mz_base.specs.declared.logs.UserEntry.TheVariants as entry
use Rattle.mz_base.specs.declared.logs.UserLog.{UserLog}
use Rattle.keys.specs.declared.command.Command.{Command}
use Rattle.report.specs.Names.{AreClientsNamed, AreEntriesNamed, AreKept, AreNamed, IsEntryNamed, IsEventNamed, IsOneOf}
use Rattle.run_meaning.specs.Deeds.{Deed, Awaits, Ends, FindsNone, Learns, Steps, Takes, certificate_of, certified_by, does, done, entries_of, over, stepped, with_certificate}
use Rattle.run_meaning.specs.Numbers.{at_number, is_number, with_number}
use Rattle.run_meaning.specs.Plays.{apply, certified, did, is_reload_legal, play, with_entries}
use Rattle.run_meaning.specs.States.{Client, State, client_at, client_log, is_open, journal_of, no_client_log, no_user_log, start, user_log}
use Rattle.run_meaning.specs.Users.{is_entered}
use Rattle.run_meaning.specs.Worlds.{ClientPlan, IsWorld, World, no_user, note_of, reloads_of, user_of}
use Rattle.run_meaning.proofs.CertificateLemmas.{certificate-client}
use Rattle.run_meaning.proofs.ClientLemmas.{as-many-play}
use Rattle.run_meaning.proofs.EventKinds.{IsDeed, MayCome, after_close, after_job, after_reload, awaiting, by_kind, ending, finding_none, kept_by_play, learning, stepping, taking}
use Rattle.run_meaning.proofs.GrowthLemmas.{entries-with, entries_at}
use Rattle.run_meaning.proofs.LogAnswers.{empty-journals}
use Rattle.run_meaning.proofs.NumberLemmas.{count}
use Rattle.run_meaning.proofs.RunningLemmas.{clients-play, number-parts}

-- a number of a list is one of each list that is as long
one-of : {A B : Type 0} (items : List A) (others : List B) (n : ℕ) → length items ≡ length others → IsTrue (is_number items n) → IsOneOf others n
one-of items others n same there =
    let parts = number-parts items n there in
    let some = parts.0 in
    let low = parts.1 in
    record { first = omega (arith, some); last = omega (arith, low, same) }

-- ---- The user of each client and the reloads of each user stay

abbrev users_in : State → List ℕ
users_in s = map (λ (log : ClientLog). log.user) s.logs.clients

abbrev dicts_in : List UserLog → List (List DictNote)
dicts_in users = map (λ (log : UserLog). log.dicts) users

map-with_number : {A B : Type 0} (f : A → B) (none : A) (items : List A) (number : ℕ) (item : A) → f item ≡ f (at_number none items number) → map f (with_number items number item) ≡ map f items
map-with_number f none items zero item same = refl
map-with_number f none items (suc place) item same = map-set_same f items place item none same

dicts-with_entries : (users : List UserLog) (user : ℕ) (entries : List UserEntry) → dicts_in (with_entries users user entries) ≡ dicts_in users
dicts-with_entries users user [] = refl
dicts-with_entries users user (first ∷ more) = map-with_number (λ (log : UserLog). log.dicts) no_user_log users user _ refl

user-certified : (client : Client) (made : Option CertEntry) → (with_certificate client made).log.user ≡ client.log.user
user-certified client None = refl
user-certified client (Some made) = refl

user-stepped : (client : Client) (rest : List Command) → (stepped client rest).log.user ≡ client.log.user
user-stepped client [] = refl
user-stepped client (c ∷ rest) = user-certified (over client _ _) (certified_by client client.progress.rest)

user-does : (client : Client) (deed : Deed) → (does client deed).log.user ≡ client.log.user
user-does client Learns = refl
user-does client (Takes pinned entries) = refl
user-does client (Awaits job) = refl
user-does client (FindsNone newest) = refl
user-does client Steps = user-stepped client client.progress.rest
user-does client Ends = refl

record HasStayed (s t : State) : Type 0 where
  pub users : users_in t ≡ users_in s
  pub dicts : dicts_in t.logs.users ≡ dicts_in s.logs.users

stayed-did : (world : World) (s : State) (c : ℕ) (e : Event) (deed : Deed) → HasStayed s (did world s c deed e)
unfolding did done client_at
stayed-did world s c e deed =
    let client = client_at s c in
    record {
      users = map-with_number (λ (log : ClientLog). log.user) no_client_log s.logs.clients c (done client e deed).log (user-does client deed);
      dicts = dicts-with_entries s.logs.users (user_of world c) (entries_of client deed);
    }

stayed-apply : (world : World) (s t : State) (e : Event) → apply world s e ≡ Some t → HasStayed s t
stayed-apply world =
    by_kind world (λ s e t. HasStayed s t) (λ s job o legal. record { users = refl; dicts = refl }) (λ s legal. record { users = refl; dicts = refl }) (λ s user reload legal. record { users = refl; dicts = dicts-with_entries s.logs.users user (entry.Dict reload ∷ []) }) (λ s c e deed came. stayed-did world s c e deed)

stayed-play : (world : World) (events : List Event) (s : State) → play world events ≡ Some s → HasStayed (start world) s
stayed-play world events s made =
    kept_by_play world (HasStayed (start world)) (λ s t e here before. let next = stayed-apply world s t e here in record { users = next.users ∙ before.users; dicts = next.dicts ∙ before.dicts }) (start world) s events made (record { users = refl; dicts = refl })

-- ---- What events add names those of other logs, with as many clients, users and reloads as the world

module _ (world : World) (logs : Logs)
    (users : length world.users ≡ length logs.users)
    (dicts : (user : ℕ) → length (reloads_of world user) ≡ length (at_number no_user_log logs.users user).dicts)
  where
    abbrev IsNamed : ℕ → UserEntry → Type 0
    IsNamed user = IsEntryNamed logs (at_number no_user_log logs.users user)

    record AreNamedIn (s : State) : Type 0 where
      pub clients : length s.clients ≡ length logs.clients
      pub entries : (user : ℕ) → All (IsNamed user) (journal_of s user)
      pub events : All (IsEventNamed logs) s.logs.events
      pub certificates : AreKept logs s.logs.certificates

    named-entries : (list : List UserLog) (user : ℕ) (entries : List UserEntry) → ((n : ℕ) → All (IsNamed n) (entries_at list n)) → All (IsNamed user) entries → (n : ℕ) → All (IsNamed n) (entries_at (with_entries list user entries) n)
    named-entries list user entries are new n =
        ⊎_elim (λ same. subst (All (IsNamed n)) (sym same) (are n)) (λ more. subst (All (IsNamed n)) (sym more.1) (All-append (IsNamed n) (entries_at list n) entries (are n) (subst (λ m. All (IsNamed m) entries) more.0 new))) (entries-with list user entries n)

    entries-deed : (client : Client) (deed : Deed) (user : ℕ) → IsOneOf logs.clients client.number → All (IsNamed user) (entries_of client deed)
    entries-deed client Learns user there = All-cons (IsNamed user) _ [] there (All-nil (IsNamed user))
    entries-deed client Ends user there = All-cons (IsNamed user) _ [] there (All-nil (IsNamed user))
    entries-deed client (Takes pinned entries) user there = All-nil (IsNamed user)
    entries-deed client (Awaits job) user there = All-nil (IsNamed user)
    entries-deed client (FindsNone newest) user there = All-nil (IsNamed user)
    entries-deed client Steps user there = All-nil (IsNamed user)

    event-deed : (s : State) (c : ℕ) (e : Event) (given : Bool) (deed : Deed) → IsDeed world s c e given deed → IsOneOf logs.clients c → IsEventNamed logs e
    event-deed s c e given deed learning there = there
    event-deed s c e given deed (taking job) there = there
    event-deed s c e given deed stepping there = there
    event-deed s c e given deed (awaiting job) there = there
    event-deed s c e given deed finding_none there = there
    event-deed s c e given deed ending there = there

    abbrev IsThere : CertEntry → Type 0
    IsThere kept = IsOneOf logs.clients kept.client

    named-certified : (kept : Option (List CertEntry)) (made : Option CertEntry) → ((m : CertEntry) → made ≡ Some m → IsOneOf logs.clients m.client) → AreKept logs kept → AreKept logs (certified kept made)
    named-certified kept None is are = are
    named-certified None (Some made) is are = are
    named-certified (Some entries) (Some made) is are =
        All-append IsThere _ _ (All-filter _ IsThere entries are) (All-cons IsThere made _ (is made refl) (All-filter _ IsThere entries are))

    named-job : (s : State) (job : ℕ) (o : Outcome) → AreNamedIn s → AreNamedIn (after_job world s job o)
    unfolding journal_of
    named-job s job o before =
        record {
          clients = before.clients;
          entries = before.entries;
          events = All-push (IsEventNamed logs) s.logs.events (event.Job job o) before.events (tt {0});
          certificates = before.certificates;
        }

    named-close : (s : State) → AreNamedIn s → AreNamedIn (after_close s)
    unfolding journal_of
    named-close s before =
        record {
          clients = before.clients;
          entries = before.entries;
          events = All-push (IsEventNamed logs) s.logs.events event.Close before.events (tt {0});
          certificates = before.certificates;
        }

    named-reload : (s : State) (user reload : ℕ) → IsTrue (is_reload_legal world s user reload) → AreNamedIn s → AreNamedIn (after_reload s user reload)
    unfolding journal_of
    named-reload s user reload legal before =
        let first = and_parts (is_open s) _ legal in
        let second = and_parts (is_number world.users user) _ first.1 in
        let third = and_parts (is_number (reloads_of world user) reload) (not (is_entered (journal_of s user) reload)) second.1 in
        let new = All-cons (IsNamed user) (entry.Dict reload) [] (one-of (reloads_of world user) _ reload (dicts user) third.0) (All-nil (IsNamed user)) in
        record {
          clients = before.clients;
          entries = named-entries s.logs.users user (entry.Dict reload ∷ []) before.entries new;
          events = All-push (IsEventNamed logs) s.logs.events (event.Dict user reload) before.events (one-of world.users logs.users user users second.0);
          certificates = before.certificates;
        }

    named-did : (s : State) (c : ℕ) (e : Event) (deed : Deed) → MayCome world s c e deed → AreNamedIn s → AreNamedIn (did world s c deed e)
    unfolding did journal_of client_at
    named-did s c e deed came before =
        let client = client_at s c in
        let there = one-of s.clients logs.clients c before.clients came.number in
        record {
          clients = count s.clients c (done client e deed).progress ∙ before.clients;
          entries = named-entries s.logs.users (user_of world c) (entries_of client deed) before.entries (entries-deed client deed (user_of world c) there);
          events = All-push (IsEventNamed logs) s.logs.events e before.events (event-deed s c e came.given deed came.is there);
          certificates = named-certified s.logs.certificates (certificate_of client deed) (λ m is. subst (IsOneOf logs.clients) (sym (certificate-client client deed m is)) there) before.certificates;
        }

    named-apply : (s t : State) (e : Event) → apply world s e ≡ Some t → AreNamedIn s → AreNamedIn t
    named-apply =
        by_kind world (λ s e t. AreNamedIn s → AreNamedIn t) (λ s job o legal. named-job s job o) (λ s legal. named-close s) named-reload named-did

    named-start : length world.clients ≡ length logs.clients → AreNamedIn (start world)
    named-start same =
        record {
          clients = length-map world.clients _ ∙ same;
          entries = λ user. subst (All (IsNamed user)) (sym (empty-journals world user)) (All-nil (IsNamed user));
          events = All-nil (IsEventNamed logs);
          certificates = by_kept world.certificates;
        }
      where
        by_kept : (b : Bool) → AreKept logs (cond b (Some []) None)
        by_kept true = All-nil _
        by_kept false = tt {0}

-- ---- The logs of a play

module _ (world : World) (events : List Event) (s : State) (is : IsWorld world) (made : play world events ≡ Some s) where
  stayed : HasStayed (start world) s
  stayed = stayed-play world events s made

  as_many_clients : length world.clients ≡ length s.logs.clients
  as_many_clients = sym (as-many-play world events s made ∙ clients-play world events s made)

  as_many_users : length world.users ≡ length s.logs.users
  as_many_users =
      sym (sym (length-map s.logs.users _) ∙ ap length stayed.dicts ∙ length-map (map user_log world.users) _ ∙ length-map world.users user_log)

  as_many_dicts : (user : ℕ) → length (reloads_of world user) ≡ length (at_number no_user_log s.logs.users user).dicts
  as_many_dicts zero = refl
  as_many_dicts (suc place) =
      let dicts = λ (log : UserLog). log.dicts in
      let planned = get_or world.users place no_user in
      sym (length-map planned.reloads note_of) ∙ ap (λ (log : UserLog). length log.dicts) (sym (get_or-map user_log world.users place no_user)) ∙ ap length (sym (get_or-map dicts (map user_log world.users) place no_user_log) ∙ ap (λ ds. get_or ds place []) (sym stayed.dicts) ∙ get_or-map dicts s.logs.users place no_user_log)

  clients_named : AreClientsNamed s.logs
  clients_named =
      let user = λ (log : ClientLog). log.user in
      let plans = All-weaker _ (λ (plan : ClientPlan). IsOneOf s.logs.users plan.user) (λ plan there. one-of world.users s.logs.users plan.user as_many_users there) world.clients is.users_there in
      let logs = All-map (λ (log : ClientLog). IsOneOf s.logs.users log.user) client_log world.clients plans in
      let numbers = subst (All (IsOneOf s.logs.users)) (sym stayed.users) (All-map (IsOneOf s.logs.users) user (map client_log world.clients) logs) in
      All-from_get_or (λ (log : ClientLog). IsOneOf s.logs.users log.user) s.logs.clients no_client_log (λ i lt. subst (IsOneOf s.logs.users) (get_or-map user s.logs.clients i no_client_log) (All-get_or (IsOneOf s.logs.users) (users_in s) i 0 (omega (arith, lt, length-map s.logs.clients user)) numbers))

  pub named-logs : AreNamed s.logs
  unfolding journal_of
  named-logs =
      let named = kept_by_play world (AreNamedIn world s.logs as_many_users as_many_dicts) (named-apply world s.logs as_many_users as_many_dicts) (start world) s events made (named-start world s.logs as_many_users as_many_dicts as_many_clients) in
      record {
        clients = clients_named;
        users = All-from_get_or (AreEntriesNamed s.logs) s.logs.users no_user_log (λ i lt. named.entries (suc i));
        events = named.events;
        certificates = named.certificates;
      }

-- The keeping of certificates changes nothing else.
use Rattle.std.proofs.Common.{◌≡◌, refl, sym, ap, ◌∙◌, ℕ, Bool, true, false, List, [], ◌∷◌, ◌++◌, Option, Some, None, length, option_map}
use Rattle.std.specs.Prelude.{◌&&◌, option_and_then}
use Rattle.mz_base.specs.declared.event.Event.{Event}
use Rattle.mz_base.specs.declared.event.Event.TheVariants as event
use Rattle.mz_base.specs.declared.logs.CertEntry.{CertEntry}
use Rattle.mz_base.specs.declared.logs.ClientLog.{ClientLog}
use Rattle.keys.specs.declared.command.Command.{Command}
use Rattle.session_meaning.specs.Steps.{step}
use Rattle.run_meaning.specs.Deeds.{Deed, Awaits, Ends, FindsNone, Learns, Steps, Takes, certificate_of, certified_by, does, done, entries_of, entries_seen, may, over, stepped, with_certificate}
use Rattle.run_meaning.specs.Jobs.{is_published, newest}
use Rattle.run_meaning.specs.Numbers.{is_number, with_number}
use Rattle.run_meaning.specs.OrderLaws.{CertificatesAside, keeping, without}
use Rattle.run_meaning.specs.Plays.{apply, by_client, certified, did, play_from, provided, with_entries}
use Rattle.run_meaning.specs.States.{Client, Progress, State, client_at, is_open, journal_of, start}
use Rattle.run_meaning.specs.Users.{data_of}
use Rattle.run_meaning.specs.Worlds.{World, user_of}

-- ---- One client

-- a client with other certificates
abbrev other : Client → Option (List CertEntry) → Client
other client certificates = record client { certificates = certificates }

-- how far it is, and its log
abbrev shown : Client → Progress × ClientLog
shown client = (client.progress, client.log)

with-aside : (client : Client) (made : Option CertEntry) → shown (with_certificate client made) ≡ shown client
with-aside client None = refl
with-aside client (Some made) = refl

stepped-aside : (client : Client) (certificates : Option (List CertEntry)) (rest : List Command) → shown (stepped (other client certificates) rest) ≡ shown (stepped client rest)
stepped-aside client certificates [] = refl
stepped-aside client certificates (c ∷ rest) =
    let made = step client.progress.session c client.progress.taken in
    let after = over client made.session made.line in
    let certified = certified_by client client.progress.rest in
    with-aside (other after certificates) certified ∙ sym (with-aside after certified)

does-aside : (client : Client) (certificates : Option (List CertEntry)) (deed : Deed) → shown (does (other client certificates) deed) ≡ shown (does client deed)
does-aside client certificates Learns = refl
does-aside client certificates (Takes pinned entries) = refl
does-aside client certificates (Awaits job) = refl
does-aside client certificates (FindsNone newest) = refl
does-aside client certificates Steps = stepped-aside client certificates client.progress.rest
does-aside client certificates Ends = refl

abbrev noted_log : Event → ℕ → ClientLog → ClientLog
noted_log e entries log = record log { own = log.own ++ record { event = e; prefix = entries } ∷ [] }

certified-none : (made : Option CertEntry) → certified None made ≡ None
certified-none None = refl
certified-none (Some made) = refl

provided-map : (legal : Bool) (s : State) → option_map without (provided legal s) ≡ provided legal (without s)
unfolding provided
provided-map true s = refl
provided-map false s = refl

entries-aside : (client : Client) (certificates : Option (List CertEntry)) (deed : Deed) → entries_of (other client certificates) deed ≡ entries_of client deed
entries-aside client certificates Learns = refl
entries-aside client certificates (Takes pinned entries) = refl
entries-aside client certificates (Awaits job) = refl
entries-aside client certificates (FindsNone newest) = refl
entries-aside client certificates Steps = refl
entries-aside client certificates Ends = refl

-- ---- One event

module _ (world : World) (kept : Bool) where
  did-aside : (s : State) (c : ℕ) (deed : Deed) (e : Event) → without (did (keeping world kept) s c deed e) ≡ did world (without s) c deed e
  unfolding did client_at done
  did-aside s c deed e =
      let client = client_at s c in
      let same : shown (does client deed) ≡ shown (does (other client None) deed) = sym (does-aside client None deed) in
      let entries : entries_of client deed ≡ entries_of (other client None) deed = sym (entries-aside client None deed) in
      let none : None ≡ certified None (certificate_of (other client None) deed) = sym (certified-none (certificate_of (other client None) deed)) in
      λ i. record {
        logs =
            record s.logs {
              clients = with_number s.logs.clients c (noted_log e (entries_seen deed) (same i).1);
              users = with_entries s.logs.users (user_of world c) (entries i);
              events = s.logs.events ++ e ∷ [];
              certificates = none i;
            };
        clients = with_number s.clients c (same i).0;
      }

  by-client-aside : (s : State) (given : Bool) (c : ℕ) (deed : Deed) (e : Event) → may (client_at s c) deed ≡ may (client_at (without s) c) deed → option_map without (by_client (keeping world kept) s given c deed e) ≡ by_client world (without s) given c deed e
  unfolding by_client
  by-client-aside s given c deed e same =
      provided-map (is_open s && (given && (is_number s.clients c && may (client_at s c) deed))) (did (keeping world kept) s c deed e)
      ∙ (λ i. provided (is_open s && (given && (is_number s.clients c && same i))) (did-aside s c deed e i))

  may-aside : (client : Client) (certificates : Option (List CertEntry)) (deed : Deed) → may client deed ≡ may (other client certificates) deed
  unfolding may
  may-aside client certificates Learns = refl
  may-aside client certificates (Takes pinned entries) = refl
  may-aside client certificates (Awaits job) = refl
  may-aside client certificates (FindsNone newest) = refl
  may-aside client certificates Steps = refl
  may-aside client certificates Ends = refl

  may-without : (s : State) (c : ℕ) (deed : Deed) → may (client_at s c) deed ≡ may (client_at (without s) c) deed
  unfolding client_at
  may-without s c deed = may-aside (client_at s c) None deed

  pub apply-aside : (s : State) (e : Event) → option_map without (apply (keeping world kept) s e) ≡ apply world (without s) e
  unfolding apply journal_of
  apply-aside s (event.Job job o) = provided-map _ _
  apply-aside s event.Close = provided-map _ _
  apply-aside s (event.Dict user reload) = provided-map _ _
  apply-aside s (event.Learn c) = by-client-aside s true c Learns (event.Learn c) (may-without s c Learns)
  apply-aside s (event.Take c job) =
      let journal = journal_of s (user_of world c) in
      let deed = Takes (data_of world (user_of world c) job journal) (length journal) in
      by-client-aside s (is_published s.logs.jobs job) c deed (event.Take c job) (may-without s c deed)
  apply-aside s (event.Step c) = by-client-aside s true c Steps (event.Step c) (may-without s c Steps)
  apply-aside s (event.Await c job) =
      by-client-aside s (is_published s.logs.jobs job) c (Awaits job) (event.Await c job) (may-without s c (Awaits job))
  apply-aside s (event.NotYet c) =
      let deed = FindsNone (newest s.logs.jobs) in
      by-client-aside s s.logs.closed c deed (event.NotYet c) (may-without s c deed)
  apply-aside s (event.End c) = by-client-aside s true c Ends (event.End c) (may-without s c Ends)

  -- ---- All events

  play-aside : (s : State) (events : List Event) → option_map without (play_from (keeping world kept) s events) ≡ play_from world (without s) events
  play-aside s [] = refl
  play-aside s (e ∷ events) =
      by_case (λ next. play-aside next events) (apply (keeping world kept) s e) ∙ ap (option_and_then (λ next. play_from world next events)) (apply-aside s e)
    where
      by_case : ((next : State) → option_map without (play_from (keeping world kept) next events) ≡ play_from world (without next) events) → (o : Option State) → option_map without (option_and_then (λ next. play_from (keeping world kept) next events) o) ≡ option_and_then (λ next. play_from world next events) (option_map without o)
      by_case goes_on None = refl
      by_case goes_on (Some next) = goes_on next

pub certificates_aside : CertificatesAside
certificates_aside world kept events =
    play-aside world kept (start (keeping world kept)) events ∙ sym (play-aside world world.certificates (start world) events)

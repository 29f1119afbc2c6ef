-- What a deed makes of its own client in a state.
use Rattle.std.proofs.Common.{◌≡◌, refl, sym, ap, subst, ◌∙◌, ℕ, suc, ◌<◌, ◌≤◌, ◌++◌, Bool, true, List, [], ◌∷◌, Option, Some, None, length, map, option_map, arith, take, take_all}
use Rattle.std.specs.Prelude.{◌&&◌, IsTrue, if◌then◌else◌, nat_le, nat_lt}
use Rattle.mz_base.specs.declared.event.Event.{Event}
use Rattle.mz_base.specs.declared.logs.CertEntry.{CertEntry}
use Rattle.keys.specs.declared.command.Command.{Command}
use Rattle.session_meaning.specs.Steps.{step}
use Rattle.run_meaning.specs.Deeds.{Deed, Awaits, Ends, FindsNone, Learns, Steps, Takes, certificate_of, certified_by, does, done, over, stepped, with_certificate}
use Rattle.run_meaning.specs.GrowthLaws.{IsDone, OwnIsDone}
use Rattle.run_meaning.specs.Jobs.{newest}
use Rattle.run_meaning.specs.Numbers.{is_number}
use Rattle.run_meaning.specs.Plays.{apply, certificates_with, certified, did, play}
use Rattle.run_meaning.specs.SoloLaws.{around_in}
use Rattle.run_meaning.specs.Solos.{client_of, deed_of}
use Rattle.run_meaning.specs.States.{Client, State, begun_with, certificates_of, client_at, client_log, journal_of, no_client_log, no_progress, start}
use Rattle.run_meaning.specs.Users.{data_of}
use Rattle.run_meaning.specs.Worlds.{ClientPlan, World, user_of}
use Rattle.run_meaning.proofs.CertificateLemmas.{certificate-client, own-certificates}
use Rattle.run_meaning.proofs.EventKinds.{IsDeed, awaiting, by_kind, ending, finding_none, kept_by_play, learning, stepping, taking}
use Rattle.run_meaning.proofs.GrowthLemmas.{client-is}
use Rattle.run_meaning.proofs.NumberLemmas.{count, written}

-- ---- As many logs as clients

abbrev pub AreAsMany : State → Type 0
AreAsMany s = length s.logs.clients ≡ length s.clients

module _ (world : World) where
  as-many-did : (s : State) (c : ℕ) (e : Event) (deed : Deed) → AreAsMany s → AreAsMany (did world s c deed e)
  unfolding did
  as-many-did s c e deed are =
      let after = done (client_at s c) e deed in
      count s.logs.clients c after.log ∙ are ∙ sym (count s.clients c after.progress)

  pub as-many-apply : (s t : State) (e : Event) → apply world s e ≡ Some t → AreAsMany s → AreAsMany t
  as-many-apply =
      by_kind world (λ s e t. AreAsMany s → AreAsMany t) (λ s job o legal are. are) (λ s legal are. are) (λ s user reload legal are. are) (λ s c e deed may are. as-many-did s c e deed are)

  as-long : (plans : List ClientPlan) → length (map client_log plans) ≡ length (map (λ (plan : ClientPlan). begun_with plan.commands) plans)
  as-long [] = refl
  as-long (plan ∷ plans) = ap suc (as-long plans)

  pub as-many-start : AreAsMany (start world)
  as-many-start = as-long world.clients

  pub as-many-play : (events : List Event) (s : State) → play world events ≡ Some s → AreAsMany s
  as-many-play events s made = kept_by_play world AreAsMany as-many-apply (start world) s events made as-many-start

-- ---- What a deed keeps, and what it certifies

with-number : (client : Client) (made : Option CertEntry) → (with_certificate client made).number ≡ client.number
with-number client None = refl
with-number client (Some made) = refl

stepped-number : (client : Client) (rest : List Command) → (stepped client rest).number ≡ client.number
stepped-number client [] = refl
stepped-number client (c ∷ rest) =
    let made = step client.progress.session c client.progress.taken in
    with-number (over client made.session made.line) (certified_by client client.progress.rest)

does-number : (client : Client) (deed : Deed) → (does client deed).number ≡ client.number
does-number client Learns = refl
does-number client (Takes pinned entries) = refl
does-number client (Awaits job) = refl
does-number client (FindsNone newest) = refl
does-number client Steps = stepped-number client client.progress.rest
does-number client Ends = refl

pub done-number : (client : Client) (e : Event) (deed : Deed) → (done client e deed).number ≡ client.number
unfolding done
done-number client e deed = does-number client deed

-- certificates with one more
abbrev pub with_made : Option (List CertEntry) → Option CertEntry → Option (List CertEntry)
with_made kept None = kept
with_made kept (Some made) = option_map (λ entries. entries ++ made ∷ []) kept

with-made : (client : Client) (made : Option CertEntry) → (with_certificate client made).certificates ≡ with_made client.certificates made
with-made client None = refl
with-made client (Some made) = refl

stepped-made : (client : Client) (rest : List Command) → client.progress.rest ≡ rest → (stepped client rest).certificates ≡ with_made client.certificates (certified_by client rest)
stepped-made client [] is = refl
stepped-made client (c ∷ rest) is =
    let made = step client.progress.session c client.progress.taken in
    with-made (over client made.session made.line) (certified_by client client.progress.rest) ∙ ap (λ commands. with_made client.certificates (certified_by client commands)) is

does-made : (client : Client) (deed : Deed) → (does client deed).certificates ≡ with_made client.certificates (certificate_of client deed)
does-made client Learns = refl
does-made client (Takes pinned entries) = refl
does-made client (Awaits job) = refl
does-made client (FindsNone newest) = refl
does-made client Steps = stepped-made client client.progress.rest refl
does-made client Ends = refl

pub done-made : (client : Client) (e : Event) (deed : Deed) → (done client e deed).certificates ≡ with_made client.certificates (certificate_of client deed)
unfolding done
done-made client e deed = does-made client deed

-- among all certificates it stands last of its client's
certified-own : (c : ℕ) (kept : Option (List CertEntry)) (made : Option CertEntry) → ((m : CertEntry) → made ≡ Some m → m.client ≡ c) → option_map (certificates_of c) (certified kept made) ≡ with_made (option_map (certificates_of c) kept) made
certified-own c kept None is = refl
certified-own c None (Some made) is = refl
certified-own c (Some entries) (Some made) is =
    let client : made.client ≡ c = is made refl in
    ap Some (subst (λ n. certificates_of n (certificates_with entries made) ≡ certificates_of n entries ++ made ∷ []) client (own-certificates entries made))

-- ---- The client after its deed

pub own-did : (world : World) (s : State) (c : ℕ) (e : Event) (deed : Deed) → IsTrue (is_number s.clients c) → AreAsMany s → client_at (did world s c deed e) c ≡ done (client_at s c) e deed
unfolding did client_at
own-did world s c e deed number are =
    let client = client_at s c in
    let after = done client e deed in
    let same : after.number ≡ c = done-number client e deed in
    let progress = written no_progress s.clients c after.progress number in
    let in_logs : IsTrue (is_number s.logs.clients c) = subst (λ n. (nat_lt 0 c && nat_le c n) ≡ true) (sym are) number in
    let log = written no_client_log s.logs.clients c after.log in_logs in
    let certificates = certified-own c s.logs.certificates (certificate_of client deed) (certificate-client client deed) ∙ sym (done-made client e deed) in
    λ i. record { number = sym same i; progress = progress i; log = log i; certificates = certificates i }

-- ---- Each event of a client

-- its deed is read with the state's log and journal
read-deed : (world : World) (s : State) (c : ℕ) (e : Event) (given : Bool) (deed : Deed) → IsDeed world s c e given deed → given ≡ true → deed_of world (around_in world s c) e (length (journal_of s (user_of world c))) ≡ Some deed
unfolding deed_of
read-deed world s c e given deed learning there = refl
read-deed world s c e given deed stepping there = refl
read-deed world s c e given deed ending there = refl
read-deed world s c e given deed (taking job) there =
    let journal = journal_of s (user_of world c) in
    ap (λ b. if b then Some (Takes (data_of world (user_of world c) job (take (length journal) journal)) (length journal)) else None) there
    ∙ ap (λ entries. Some (Takes (data_of world (user_of world c) job entries) (length journal))) (take_all (length journal) journal (let all : length journal ≤ length journal = omega arith in all))
read-deed world s c e given deed (awaiting job) there = ap (λ b. if b then Some (Awaits job) else None) there
read-deed world s c e given deed finding_none there = ap (λ b. if b then Some (FindsNone (newest s.logs.jobs)) else None) there

-- it may come, and was done
done-apply : (world : World) (s t : State) (e : Event) → apply world s e ≡ Some t → AreAsMany s → 0 < client_of e → IsDone world s t e (client_of e)
done-apply world =
    by_kind world (λ s e t. AreAsMany s → 0 < client_of e → IsDone world s t e (client_of e)) (λ s job o legal are some. absurd (omega (arith, some))) (λ s legal are some. absurd (omega (arith, some))) (λ s user reload legal are some. absurd (omega (arith, some))) (λ s c e deed may are some. subst (λ n. IsDone world s (did world s c deed e) e n) (sym (client-is world s c e may.given deed may.is)) (record { deed = deed; read = read-deed world s c e may.given deed may.is may.there; may_come = may.may_come; made = own-did world s c e deed may.number are }))

pub own_is_done : OwnIsDone
own_is_done world events s t e played made some =
    done-apply world s t e made (as-many-play world events s played) some

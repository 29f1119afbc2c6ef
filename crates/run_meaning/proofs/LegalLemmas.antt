-- An event with which a client alone goes on is legal, where the log is closed.
use Rattle.std.proofs.Common.{◌≡◌, refl, sym, ap, subst, ◌∙◌, ℕ, ◌==◌, ◌≤◌, Bool, true, false, Some, None, length, arith, take, take_all}
use Rattle.std.specs.Prelude.{IsTrue, if◌then◌else◌, option_and_then, nat_le, nat_lt, ◌&&◌}
use Rattle.std.proofs.lemmas.Bool.{eqb-true}
use Rattle.std.proofs.lemmas.Option.{cond_some, none-some, option_and_then_some, same_Some}
use Rattle.mz_base.specs.declared.event.Event.{Event}
use Rattle.mz_base.specs.declared.event.Event.TheVariants as event
use Rattle.mz_base.specs.declared.logs.Own.{Own}
use Rattle.run_meaning.specs.AnswerLaws.{AloneIsLegal, MakesOf, SeesAll}
use Rattle.run_meaning.specs.Deeds.{Deed, Awaits, Ends, FindsNone, Learns, Steps, Takes, done, may}
use Rattle.run_meaning.specs.Jobs.{is_published, newest}
use Rattle.run_meaning.specs.Numbers.{is_number}
use Rattle.run_meaning.specs.Plays.{did}
use Rattle.run_meaning.specs.SoloLaws.{around_in}
use Rattle.run_meaning.specs.Solos.{Around, after_deed, alone_after, client_of, deed_of}
use Rattle.run_meaning.specs.States.{Client, State, client_at, is_open, journal_of}
use Rattle.run_meaning.specs.Users.{data_of}
use Rattle.run_meaning.specs.Worlds.{World, user_of}
use Rattle.run_meaning.proofs.ClientLemmas.{as-many-play, own-did}
use Rattle.run_meaning.proofs.EventKinds.{IsDeed, awaiting, ending, finding_none, learning, stepping, taking}
use Rattle.run_meaning.proofs.LogAnswers.{begins-play}
use Rattle.run_meaning.proofs.RunningLemmas.{clients-play}
use Rattle.run_meaning.proofs.ServingLemmas.{legal-deed}

-- what an event does to a client alone
pub record GoesOn (world : World) (around : Around) (client : Client) (own : Own) (next : Client) : Type 0 where
  pub deed : Deed
  pub named : client_of own.event ≡ client.number
  pub is : deed_of world around own.event own.prefix ≡ Some deed
  pub can : may client deed ≡ true
  pub made : done client own.event deed ≡ next

pub goes-on-by : (world : World) (around : Around) (client : Client) (own : Own) (next : Client) → alone_after world around client own ≡ Some next → GoesOn world around client own next
unfolding alone_after
goes-on-by world around client own next made = by_name (client_of own.event == client.number) refl made
  where
    by_name : (b : Bool) → (client_of own.event == client.number) ≡ b → (if b then option_and_then (after_deed client own.event) (deed_of world around own.event own.prefix) else None) ≡ Some next → GoesOn world around client own next
    by_name false is here = absurd (none-some next here)
    by_name true is here =
        option_and_then_some (after_deed client own.event) (deed_of world around own.event own.prefix) next here (λ deed found after. let both = cond_some (may client deed) (done client own.event deed) next after in record { deed = deed; named = eqb-true (client_of own.event) client.number is; is = found; can = both.0; made = both.1 })

module _ (world : World) (s : State) (c : ℕ) (opens : IsTrue (is_open s)) (number : IsTrue (is_number s.clients c)) (as_many : length s.logs.clients ≡ length s.clients) where
  makes : (e : Event) (given : Bool) (deed : Deed) (next : Client) → IsDeed world s c e given deed → given ≡ true → may (client_at s c) deed ≡ true → done (client_at s c) e deed ≡ next → MakesOf world s c e next
  makes e given deed next is there can made =
      record { state = did world s c deed e; legal = legal-deed world s c e given deed is opens there number can; made = own-did world s c e deed number as_many ∙ made }

  -- whose deed the event is
  by_event : (e : Event) (prefix : ℕ) (next : Client) → SeesAll world s c (record { event = e; prefix = prefix }) → GoesOn world (around_in world s c) (client_at s c) (record { event = e; prefix = prefix }) next → MakesOf world s c e next
  unfolding deed_of client_at
  by_event (event.Job job o) prefix next sees goes = absurd (none-some goes.deed goes.is)
  by_event event.Close prefix next sees goes = absurd (none-some goes.deed goes.is)
  by_event (event.Dict user reload) prefix next sees goes = absurd (none-some goes.deed goes.is)
  by_event (event.Learn d) prefix next sees goes =
      let deed = same_Some Learns goes.deed goes.is in
      subst (λ n. MakesOf world s c (event.Learn n) next) (sym goes.named) (makes (event.Learn c) true Learns next learning refl (subst (λ x. may (client_at s c) x ≡ true) (sym deed) goes.can) (ap (λ n. done (client_at s c) (event.Learn n) Learns) (sym goes.named) ∙ ap (done (client_at s c) (event.Learn d)) deed ∙ goes.made))
  by_event (event.Step d) prefix next sees goes =
      let deed = same_Some Steps goes.deed goes.is in
      subst (λ n. MakesOf world s c (event.Step n) next) (sym goes.named) (makes (event.Step c) true Steps next stepping refl (subst (λ x. may (client_at s c) x ≡ true) (sym deed) goes.can) (ap (λ n. done (client_at s c) (event.Step n) Steps) (sym goes.named) ∙ ap (done (client_at s c) (event.Step d)) deed ∙ goes.made))
  by_event (event.End d) prefix next sees goes =
      let deed = same_Some Ends goes.deed goes.is in
      subst (λ n. MakesOf world s c (event.End n) next) (sym goes.named) (makes (event.End c) true Ends next ending refl (subst (λ x. may (client_at s c) x ≡ true) (sym deed) goes.can) (ap (λ n. done (client_at s c) (event.End n) Ends) (sym goes.named) ∙ ap (done (client_at s c) (event.End d)) deed ∙ goes.made))
  by_event (event.Await d job) prefix next sees goes =
      let both = cond_some (is_published s.logs.jobs job) (Awaits job) goes.deed goes.is in
      let deed = both.1 in
      subst (λ n. MakesOf world s c (event.Await n job) next) (sym goes.named) (makes (event.Await c job) (is_published s.logs.jobs job) (Awaits job) next (awaiting job) both.0 (subst (λ x. may (client_at s c) x ≡ true) (sym deed) goes.can) (ap (λ n. done (client_at s c) (event.Await n job) (Awaits job)) (sym goes.named) ∙ ap (done (client_at s c) (event.Await d job)) deed ∙ goes.made))
  by_event (event.NotYet d) prefix next sees goes =
      let both = cond_some s.logs.closed (FindsNone (newest s.logs.jobs)) goes.deed goes.is in
      let deed = both.1 in
      subst (λ n. MakesOf world s c (event.NotYet n) next) (sym goes.named) (makes (event.NotYet c) s.logs.closed (FindsNone (newest s.logs.jobs)) next finding_none both.0 (subst (λ x. may (client_at s c) x ≡ true) (sym deed) goes.can) (ap (λ n. done (client_at s c) (event.NotYet n) (FindsNone (newest s.logs.jobs))) (sym goes.named) ∙ ap (done (client_at s c) (event.NotYet d)) deed ∙ goes.made))
  by_event (event.Take d job) prefix next sees goes =
      let user = user_of world c in
      let journal = journal_of s user in
      let both = cond_some (is_published s.logs.jobs job) (Takes (data_of world user job (take prefix journal)) prefix) goes.deed goes.is in
      let whole : prefix ≡ length journal = sees job (ap (λ n. event.Take n job) goes.named) in
      let all : take (length journal) journal ≡ journal = take_all (length journal) journal (let same : length journal ≤ length journal = omega arith in same) in
      let mine : Deed = Takes (data_of world user job journal) (length journal) in
      let deed : mine ≡ goes.deed = sym (ap (λ n. Takes (data_of world user job (take n journal)) n) whole ∙ ap (λ j. Takes (data_of world user job j) (length journal)) all) ∙ both.1 in
      subst (λ n. MakesOf world s c (event.Take n job) next) (sym goes.named) (makes (event.Take c job) (is_published s.logs.jobs job) mine next (taking job) both.0 (subst (λ x. may (client_at s c) x ≡ true) (sym deed) goes.can) (ap (λ n. done (client_at s c) (event.Take n job) mine) (sym goes.named) ∙ ap (done (client_at s c) (event.Take d job)) deed ∙ goes.made))

pub alone_is_legal : AloneIsLegal
alone_is_legal world events s c own next played closed number sees made =
    let in_state : IsTrue (is_number s.clients c) = subst (λ n. (nat_lt 0 c && nat_le c n) ≡ true) (sym (clients-play world events s played)) number in
    by_event world s c (begins-play world events s played closed) in_state (as-many-play world events s played) own.event own.prefix next sees (goes-on-by world (around_in world s c) (client_at s c) own next made)

-- A take: what is kept of its user is brought up to date first, and then the deed is done.
use Rattle.std.proofs.Common.{◌≡◌, refl, sym, ap, subst, ◌∙◌, ℕ, ◌+◌, ◌-◌, List, Some, None}
use Rattle.std.specs.Prelude.{length}
use Rattle.mz_base.specs.declared.event.Event.{Event}
use Rattle.mz_base.specs.declared.event.Event.TheVariants as event
use Rattle.session_meaning.specs.Stages.{Pinned}
use Rattle.run_meaning.specs.Deeds.{Deed}
use Rattle.run_meaning.specs.Jobs.{is_published}
use Rattle.run_meaning.specs.States.{Progress, client_at, journal_of}
use Rattle.run_meaning.specs.Users.{data_of}
use Rattle.run_meaning.specs.Worlds.{user_of}
use Rattle.run_meaning.proofs.EventKinds.{taking}
use Rattle.core_steps.specs.Additions.{beside_of, own_of}
use Rattle.core_steps.specs.Cores.{IsMade}
use Rattle.core_steps.specs.Kepts.{IsKept, IsTaking, Kept, MayDo, after_deed, logs_after, progress_at, ran, taking_now, with_progress, with_users}
use Rattle.core_steps.specs.declared.addition.Beside.TheVariants as beside
use Rattle.core_steps.specs.declared.standing.Standing.{Standing}
use Rattle.core_steps.proofs.DeedLemmas.{deed-done, deed-is-made, kept-done, same-beside}

module _ (old : Kept) (users : List Standing) (c place job : ℕ) (can : IsTaking old c place job) (is : IsKept (with_users old users)) where
  abbrev event-of : Event
  event-of = event.Take c job

  abbrev deed-of : Deed
  deed-of = taking_now old c job

  may-still : MayDo (with_users old users) c place deed-of
  may-still =
      record {
        stands = record { begun = can.may.stands.begun; number = can.may.stands.number; within = can.may.stands.within };
        may_come = can.may.may_come;
      }

  module _ (taken : Pinned) (entries : ℕ) (are : taken ≡ data_of old.world (user_of old.world (place + 1)) job (journal_of old.state (user_of old.world (place + 1)))) (seen : entries ≡ length (journal_of old.state (user_of old.world (place + 1)))) (noted after : Kept) (is_noted : noted ≡ logs_after (with_users old users) place (user_of old.world (place + 1) - 1) (record { event = event.Take c job; prefix = entries }) None beside.Nothing) (is_after : after ≡ with_progress noted place (record (progress_at noted place) { taken = Some taken; seen = taken.version })) where
    abbrev here : Kept
    here = with_users old users

    pinned-is : taken ≡ data_of old.world (user_of old.world c) job (journal_of old.state (user_of old.world c))
    pinned-is =
        are
        ∙ ap (λ n. data_of old.world (user_of old.world n) job (journal_of old.state (user_of old.world n))) (sym can.may.stands.number)

    own-is : record { event = event.Take c job; prefix = entries } ≡ own_of event-of deed-of
    own-is =
        ap (λ n. record { event = event.Take c job; prefix = n }) (seen ∙ ap (λ n. length (journal_of old.state (user_of old.world n))) (sym can.may.stands.number))

    take-done : after ≡ after_deed here c event-of deed-of
    take-done =
        deed-done here is c place may-still.stands event-of deed-of (record { event = event.Take c job; prefix = entries }) None beside.Nothing (λ (p : Progress). record p { taken = Some taken; seen = taken.version }) own-is refl (same-beside here place beside.Nothing (beside_of (client_at here.state c) deed-of) refl) (ap (λ (pinned : Pinned). record (client_at old.state c).progress { taken = Some pinned; seen = pinned.version }) pinned-is) noted after is_noted is_after

    pub take-kept : IsKept after
    take-kept =
        kept-done here after is c place event-of (is_published old.state.logs.jobs job) deed-of may-still (taking job) can.published take-done

    pub take-made : after ≡ with_users (after_deed old c event-of deed-of) after.users
    take-made =
        take-done ∙ ap (with_users (after_deed old c event-of deed-of)) (sym (ap (λ (k : Kept). k.users) take-done))

-- the event came
pub take-came : (old after : Kept) (c place job : ℕ) → IsTaking old c place job → after ≡ with_users (after_deed old c (event.Take c job) (taking_now old c job)) after.users → IsMade (ran old) (event.Take c job) (ran after)
take-came old after c place job can made =
    subst (λ k. IsMade (ran old) (event.Take c job) (ran k)) (sym made) (deed-is-made old c place (event.Take c job) (is_published old.state.logs.jobs job) (taking_now old c job) can.may (taking job) can.published)

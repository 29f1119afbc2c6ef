-- What is noted of events.
use Rattle.std.proofs.Common.{◌≡◌, refl, sym, ap, ◌∙◌, ℕ, List, [], ◌∷◌, ◌++◌, Option, Some, None, append_assoc, append-nil}
use Rattle.std.specs.Prelude.{option_and_then}
use Rattle.std.proofs.lemmas.Option.{option_and_then_some, same_Some}
use Rattle.mz_base.specs.declared.event.Event.{Event}
use Rattle.run_meaning.specs.Deeds.{Deed}
use Rattle.run_meaning.specs.NoteLaws.{EachIsLegal, EventsAreNoted}
use Rattle.run_meaning.specs.Plays.{apply, did, play_from}
use Rattle.run_meaning.specs.States.{State, start}
use Rattle.run_meaning.specs.Worlds.{World}
use Rattle.run_meaning.proofs.EventKinds.{by_kind}

noted-did : (world : World) (s : State) (c : ℕ) (e : Event) (deed : Deed) → (did world s c deed e).logs.events ≡ s.logs.events ++ e ∷ []
unfolding did
noted-did world s c e deed = refl

pub noted-apply : (world : World) (s t : State) (e : Event) → apply world s e ≡ Some t → t.logs.events ≡ s.logs.events ++ e ∷ []
noted-apply world =
    by_kind world (λ s e t. t.logs.events ≡ s.logs.events ++ e ∷ []) (λ s job o legal. refl) (λ s legal. refl) (λ s user reload legal. refl) (λ s c e deed may. noted-did world s c e deed)

pub noted-from : (world : World) (events : List Event) (s t : State) → play_from world s events ≡ Some t → t.logs.events ≡ s.logs.events ++ events
noted-from world [] s t made = ap (λ (state : State). state.logs.events) (sym (same_Some s t made)) ∙ sym (append-nil s.logs.events)
noted-from world (e ∷ events) s t made =
    option_and_then_some (λ next. play_from world next events) (apply world s e) t made (λ next here rest. noted-from world events next t rest ∙ ap (λ noted. noted ++ events) (noted-apply world s next e here) ∙ append_assoc s.logs.events (e ∷ []) events)

pub noted-play : EventsAreNoted
noted-play world events s made = noted-from world events (start world) s made

module _ (world : World) (e : Event) where
  just : (o : Option State) → option_and_then (λ next. Some next) o ≡ o
  just None = refl
  just (Some s) = refl

  pub play-more : (s : State) (events : List Event) → play_from world s (events ++ e ∷ []) ≡ option_and_then (λ t. apply world t e) (play_from world s events)
  play-more s [] = just (apply world s e)
  play-more s (first ∷ events) = by_first (λ next. play-more next events) (apply world s first)
    where
      by_first : ((next : State) → play_from world next (events ++ e ∷ []) ≡ option_and_then (λ t. apply world t e) (play_from world next events)) → (o : Option State) → option_and_then (λ next. play_from world next (events ++ e ∷ [])) o ≡ option_and_then (λ t. apply world t e) (option_and_then (λ next. play_from world next events) o)
      by_first goes_on None = refl
      by_first goes_on (Some next) = goes_on next

pub each_is_legal : EachIsLegal
each_is_legal = record { none = λ world. refl; more = λ world events e. play-more world e (start world) events }

-- What events led to, with one event more.
use Rattle.std.proofs.Common.{◌≡◌, ap, ◌∙◌, Some}
use Rattle.std.specs.Prelude.{option_and_then}
use Rattle.mz_base.specs.declared.event.Event.{Event}
use Rattle.run_meaning.specs.Plays.{apply, play}
use Rattle.run_meaning.specs.States.{State, start}
use Rattle.run_meaning.specs.Worlds.{World}
use Rattle.run_meaning.proofs.NoteLemmas.{noted-apply, play-more}

-- where its events led to a state, those of the state after a legal event lead there
pub kept-played : (world : World) (s t : State) (e : Event) → play world s.logs.events ≡ Some s → apply world s e ≡ Some t → play world t.logs.events ≡ Some t
kept-played world s t e played made =
    ap (play world) (noted-apply world s t e made)
    ∙ (play-more world e (start world) s.logs.events
    ∙ (ap (λ o. option_and_then (λ (next : State). apply world next e) o) played ∙ made))

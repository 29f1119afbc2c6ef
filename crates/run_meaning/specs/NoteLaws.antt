-- What is noted of events, and which lists of them are legal.
use Rattle.std.specs.Prelude.{◌≡◌, ℕ, ◌<◌, ◌==◌, List, [], ◌∷◌, ◌++◌, Some, filter, map, option_and_then}
use Rattle.mz_base.specs.declared.event.Event.{Event}
use Rattle.mz_base.specs.declared.logs.Own.{Own}
use Rattle.run_meaning.specs.Plays.{apply, play}
use Rattle.run_meaning.specs.Solos.{client_of}
use Rattle.run_meaning.specs.States.{State, client_at, start}
use Rattle.run_meaning.specs.Worlds.{World}

-- the events are noted, in their order, and no others
abbrev pub EventsAreNoted : Type 0
EventsAreNoted = (world : World) (events : List Event) (s : State) → play world events ≡ Some s → s.logs.events ≡ events

-- and what is noted as a client's own are those of them that are its
abbrev pub OwnAreNoted : Type 0
OwnAreNoted =
    (world : World) (events : List Event) (s : State) (c : ℕ) → play world events ≡ Some s → 0 < c → map (λ (own : Own). own.event) (client_at s c).log.own ≡ filter (λ e. client_of e == c) events

-- no event is legal, and one more is exactly where those before it are and it is in the state that they lead to
pub record EachIsLegal : Type 0 where
  pub none : (world : World) → play world [] ≡ Some (start world)
  pub more : (world : World) (events : List Event) (e : Event) → play world (events ++ e ∷ []) ≡ option_and_then (λ s. apply world s e) (play world events)

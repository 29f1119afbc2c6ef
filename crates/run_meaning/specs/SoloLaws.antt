-- What a client sees depends on its own events alone.
use Rattle.std.specs.Prelude.{◌≡◌, ℕ, List, Some}
use Rattle.mz_base.specs.declared.event.Event.{Event}
use Rattle.run_meaning.specs.Plays.{play}
use Rattle.run_meaning.specs.Solos.{Around, alone}
use Rattle.run_meaning.specs.States.{State, client_at, journal_of, start}
use Rattle.run_meaning.specs.Worlds.{World, user_of}

-- the job log and the journal of the client's user, as a state has them
abbrev pub around_in : World → State → ℕ → Around
around_in world s client =
    record { user = user_of world client; jobs = s.logs.jobs; closed = s.logs.closed; journal = journal_of s (user_of world client) }

-- each client of a state is what its own events make of it, with that log and journal
abbrev pub ClientsAreAlone : Type 0
ClientsAreAlone =
    (world : World) (events : List Event) (s : State) (c : ℕ) → play world events ≡ Some s → alone world (around_in world s c) (client_at (start world) c) (client_at s c).log.own ≡ Some (client_at s c)

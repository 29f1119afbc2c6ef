-- What an event leaves as it was, and what grows.
use Rattle.std.specs.Prelude.{◌≡◌, ◌≢◌, ℕ, ◌<◌, IsTrue, List, ◌++◌, Some, length}
use Rattle.std.specs.List.{list_all}
use Rattle.mz_base.specs.declared.event.Event.{Event}
use Rattle.run_meaning.specs.Deeds.{Deed, done, may}
use Rattle.run_meaning.specs.Jobs.{is_logged}
use Rattle.run_meaning.specs.Numbers.{numbers}
use Rattle.run_meaning.specs.Plays.{apply, play, play_from}
use Rattle.run_meaning.specs.SoloLaws.{around_in}
use Rattle.run_meaning.specs.Solos.{client_of, deed_of}
use Rattle.run_meaning.specs.States.{State, client_at, journal_of}
use Rattle.run_meaning.specs.Worlds.{World, user_of}

-- an event of one client leaves each other client as it was, and an event of none leaves all
abbrev pub OthersAreLeft : Type 0
OthersAreLeft =
    (world : World) (s t : State) (e : Event) (c : ℕ) → apply world s e ≡ Some t → client_of e ≢ c → client_at t c ≡ client_at s c

-- What an event makes of its own client: its deed, read with the state's job log and the whole journal of the client's user,
-- may come, and was done.
pub record IsDone (world : World) (s t : State) (e : Event) (c : ℕ) : Type 0 where
  pub deed : Deed
  pub read : deed_of world (around_in world s c) e (length (journal_of s (user_of world c))) ≡ Some deed
  pub may_come : IsTrue (may (client_at s c) deed)
  pub made : client_at t c ≡ done (client_at s c) e deed

abbrev pub OwnIsDone : Type 0
OwnIsDone =
    (world : World) (events : List Event) (s t : State) (e : Event) → play world events ≡ Some s → apply world s e ≡ Some t → 0 < client_of e → IsDone world s t e (client_of e)

-- a list is another with more after it
abbrev pub IsGrown : {A : Type 0} → List A → List A → Type 0
IsGrown {A} before after = (more : List A) × (after ≡ before ++ more)

-- the job log, each journal and the events have more
pub record AreLogsGrown (s t : State) : Type 0 where
  pub jobs : IsGrown s.logs.jobs t.logs.jobs
  pub journals : (user : ℕ) → IsGrown (journal_of s user) (journal_of t user)
  pub events : IsGrown s.logs.events t.logs.events

abbrev pub LogsGrow : Type 0
LogsGrow =
    (world : World) (s t : State) (events : List Event) → play_from world s events ≡ Some t → AreLogsGrown s t

-- all jobs stand in the log, if it is closed
abbrev pub IsFullIfClosed : World → State → Type 0
IsFullIfClosed world s =
    IsTrue s.logs.closed → IsTrue (list_all (is_logged s.logs.jobs) (numbers (length world.jobs)))

abbrev pub ClosedIsFull : Type 0
ClosedIsFull = (world : World) (events : List Event) (s : State) → play world events ≡ Some s → IsFullIfClosed world s

-- a log that is closed stays so, and has no more
pub record IsStillClosed (s t : State) : Type 0 where
  pub closed : IsTrue t.logs.closed
  pub jobs : t.logs.jobs ≡ s.logs.jobs

abbrev pub ClosedStays : Type 0
ClosedStays =
    (world : World) (events more : List Event) (s t : State) → play world events ≡ Some s → play_from world s more ≡ Some t → IsTrue s.logs.closed → IsStillClosed s t

-- What a client enters in its user's journal: its learns, and its end.
use Rattle.std.specs.Prelude.{◌≡◌, ◌≢◌, ℕ, ◌+◌, ◌==◌, Bool, true, false, IsTrue, List, [], ◌∷◌, ◌++◌, Some, count_by, filter, if◌then◌else◌, length}
use Rattle.std.specs.Option.{option_map_or}
use Rattle.mz_base.specs.declared.event.Event.{Event}
use Rattle.mz_base.specs.declared.event.Event.TheVariants as event
use Rattle.mz_base.specs.declared.lattice.Pair.{Pair}
use Rattle.mz_base.specs.declared.logs.Own.{Own}
use Rattle.mz_base.specs.declared.logs.UserEntry.{UserEntry}
use Rattle.mz_base.specs.declared.logs.UserEntry.TheVariants as entry
use Rattle.session_meaning.specs.Laws.{is_learned}
use Rattle.run_meaning.specs.Deeds.{need_of, pairs_of}
use Rattle.run_meaning.specs.Numbers.{is_number}
use Rattle.run_meaning.specs.Plays.{apply, play}
use Rattle.run_meaning.specs.SoloLaws.{around_in}
use Rattle.run_meaning.specs.Solos.{Around, alone_after}
use Rattle.run_meaning.specs.States.{Client, State, client_at, journal_of, start}
use Rattle.run_meaning.specs.Worlds.{IsWorld, World, user_of}

-- ---- The entries of a client

abbrev pub is_by : ℕ → UserEntry → Bool
is_by c (entry.Learn client seq pairs) = client == c
is_by c (entry.End client count) = client == c
is_by c _ = false

abbrev pub entries_by : ℕ → List UserEntry → List UserEntry
entries_by c journal = filter (is_by c) journal

-- those in the journal of its user
abbrev pub its_entries : World → State → ℕ → List UserEntry
its_entries world s c = entries_by c (journal_of s (user_of world c))

-- the user of a client is one of the world's
abbrev pub IsUserThere : World → ℕ → Type 0
IsUserThere world c = IsTrue (is_number world.users (user_of world c))

-- in a world that can be run each client's is
abbrev pub UsersAreThere : Type 0
UsersAreThere = (world : World) (c : ℕ) → IsWorld world → IsTrue (is_number world.clients c) → IsUserThere world c

-- how many learns own events are
abbrev pub is_learn : Event → Bool
is_learn (event.Learn c) = true
is_learn _ = false

abbrev pub learns_in : List Own → ℕ
learns_in own = count_by (λ (o : Own). is_learn o.event) own

-- ---- They are numbered

-- learns of these pairs, numbered from a number on
abbrev pub numbered : ℕ → ℕ → List (List Pair) → List UserEntry
numbered c from [] = []
numbered c from (pairs ∷ more) = entry.Learn c from pairs ∷ numbered c (from + 1) more

-- the end with the number of learns, where the client has ended
abbrev pub end_if : Bool → ℕ → ℕ → List UserEntry
end_if ended c count = if ended then entry.End c count ∷ [] else []

-- Learns numbered 1, 2, .., as many as the client made; then its end with their number, if it has ended, and no more.
pub record AreNumbered (client : Client) (entries : List UserEntry) : Type 0 where
  pub learned : List (List Pair)
  pub as_many : length learned ≡ learns_in client.log.own
  pub are : entries ≡ numbered client.number 1 learned ++ end_if client.progress.ended client.number (length learned)

abbrev pub EntriesAreNumbered : Type 0
EntriesAreNumbered =
    (world : World) (events : List Event) (s : State) (c : ℕ) → play world events ≡ Some s → IsUserThere world c → AreNumbered (client_at s c) (its_entries world s c)

-- the journal of another user has none of them
abbrev pub OthersHaveNone : Type 0
OthersHaveNone =
    (world : World) (events : List Event) (s : State) (c user : ℕ) → play world events ≡ Some s → user ≢ user_of world c → entries_by c (journal_of s user) ≡ []

-- ---- Their pairs are those of the commands that commit

-- the next command of a client commits what is learned, and these are its pairs
abbrev pub commits : Client → Bool
commits client = is_learned (need_of client.progress.session client.progress.rest)

abbrev pub pairs_next : Client → List Pair
pairs_next client = pairs_of client.progress.session client.progress.rest

-- a learn of the next command, with this number, is the last entry
abbrev pub IsLastLearn : Client → ℕ → List UserEntry → Type 0
IsLastLearn client number entries =
    (before : List UserEntry) × (entries ≡ before ++ entry.Learn client.number number (pairs_next client) ∷ [])

-- A learn comes for a next command that commits, once, and enters its pairs with the next number.
pub record IsEntered (client : Client) (before after : List UserEntry) : Type 0 where
  pub commits : IsTrue (commits client)
  pub once : client.progress.learned ≡ false
  pub enters : after ≡ before ++ entry.Learn client.number (learns_in client.log.own + 1) (pairs_next client) ∷ []

abbrev pub LearnsAreEntered : Type 0
LearnsAreEntered =
    (world : World) (events : List Event) (s t : State) (c : ℕ) → play world events ≡ Some s → apply world s (event.Learn c) ≡ Some t → IsUserThere world c → IsEntered (client_at s c) (its_entries world s c) (its_entries world t c)

-- and a step that commits comes when its learn is the client's last entry
abbrev pub CommitsAreLearned : Type 0
CommitsAreLearned =
    (world : World) (events : List Event) (s t : State) (c : ℕ) → play world events ≡ Some s → apply world s (event.Step c) ≡ Some t → IsUserThere world c → IsTrue (commits (client_at s c)) → IsLastLearn (client_at s c) (learns_in (client_at s c).log.own) (its_entries world s c)

-- ---- They are what the client's own events make, whatever others do

-- the pairs of the learns among own events: for each those of the next command, where the client is after the events before it
abbrev pub pairs_learned : World → Around → Client → List Own → List (List Pair)
pairs_learned world around client [] = []
pairs_learned world around client (own ∷ rest) =
    (if is_learn own.event then pairs_next client ∷ [] else []) ++ option_map_or (λ next. pairs_learned world around next rest) (alone_after world around client own) []

abbrev pub EntriesAreItsOwn : Type 0
EntriesAreItsOwn =
    (world : World) (events : List Event) (s : State) (c : ℕ) → play world events ≡ Some s → IsUserThere world c → its_entries world s c ≡ numbered c 1 (pairs_learned world (around_in world s c) (client_at (start world) c) (client_at s c).log.own) ++ end_if (client_at s c).progress.ended c (learns_in (client_at s c).log.own)

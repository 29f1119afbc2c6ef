-- What a client sees is never older than what it saw.
use Rattle.std.specs.Prelude.{◌≡◌, ℕ, ◌+◌, ◌≤◌, AllPairs, Bool, true, false, IsTrue, List, [], ◌∷◌, ◌++◌, Option, Some, None, count_by, filter_map, if◌then◌else◌, map, take}
use Rattle.mz_base.specs.declared.event.Event.{Event}
use Rattle.mz_base.specs.declared.event.Event.TheVariants as event
use Rattle.mz_base.specs.declared.logs.Own.{Own}
use Rattle.mz_base.specs.declared.logs.UserEntry.{UserEntry}
use Rattle.mz_base.specs.declared.logs.UserEntry.TheVariants as entry
use Rattle.run_meaning.specs.GrowthLaws.{IsGrown}
use Rattle.run_meaning.specs.Jobs.{is_published}
use Rattle.run_meaning.specs.JournalLaws.{IsUserThere, entries_by, is_learn}
use Rattle.run_meaning.specs.Plays.{apply, play}
use Rattle.run_meaning.specs.States.{State, client_at, journal_of}
use Rattle.run_meaning.specs.Worlds.{World, user_of}

-- ---- Jobs

-- the job that a take or an await names
abbrev pub named_by : Event → Option ℕ
named_by (event.Take c job) = Some job
named_by (event.Await c job) = Some job
named_by _ = None

-- it stands published
abbrev pub NamedIsPublished : Type 0
NamedIsPublished =
    (world : World) (s t : State) (e : Event) (job : ℕ) → apply world s e ≡ Some t → named_by e ≡ Some job → IsTrue (is_published s.logs.jobs job)

-- the jobs that own events name, in their order
abbrev pub jobs_named : List Own → List ℕ
jobs_named own = filter_map (λ (o : Own). named_by o.event) own

-- none of a client's is lower than one before it
abbrev pub NamedNeverFall : Type 0
NamedNeverFall =
    (world : World) (events : List Event) (s : State) (c : ℕ) → play world events ≡ Some s → AllPairs ◌≤◌ (jobs_named (client_at s c).log.own)

-- ---- Journals

abbrev pub is_take : Event → Bool
is_take (event.Take c job) = true
is_take _ = false

-- how many entries of the journal an own event saw, where it is a take
abbrev pub length_seen : Own → Option ℕ
length_seen own = if is_take own.event then Some own.prefix else None

-- what the takes among own events saw of a journal, in their order
abbrev pub journals_seen : List UserEntry → List Own → List (List UserEntry)
journals_seen journal own = map (λ entries. take entries journal) (filter_map length_seen own)

-- what a client's takes saw of its user's
abbrev pub seen_by : World → State → ℕ → List (List UserEntry)
seen_by world s c = journals_seen (journal_of s (user_of world c)) (client_at s c).log.own

-- a take sees the whole journal
abbrev pub TakesSeeAll : Type 0
TakesSeeAll =
    (world : World) (events : List Event) (s t : State) (c job : ℕ) → play world events ≡ Some s → apply world s (event.Take c job) ≡ Some t → seen_by world t c ≡ seen_by world s c ++ journal_of s (user_of world c) ∷ []

-- so each journal that a client saw begins with each before it
abbrev pub SeenOnlyGrow : Type 0
SeenOnlyGrow =
    (world : World) (events : List Event) (s : State) (c : ℕ) → play world events ≡ Some s → AllPairs IsGrown (seen_by world s c)

-- ---- Learns

abbrev pub is_learn_entry : UserEntry → Bool
is_learn_entry (entry.Learn client seq pairs) = true
is_learn_entry _ = false

-- how many learns of a client a journal has
abbrev pub learns_by : ℕ → List UserEntry → ℕ
learns_by c journal = count_by is_learn_entry (entries_by c journal)

-- how many learns came before each take among own events, where so many came before them all
abbrev pub learns_before : ℕ → List Own → List ℕ
learns_before made [] = []
learns_before made (own ∷ rest) =
    (if is_take own.event then made ∷ [] else []) ++ learns_before (if is_learn own.event then made + 1 else made) rest

-- a take sees all learns of its client that came before it
abbrev pub LearnsAreSeen : Type 0
LearnsAreSeen =
    (world : World) (events : List Event) (s : State) (c : ℕ) → play world events ≡ Some s → IsUserThere world c → map (learns_by c) (seen_by world s c) ≡ learns_before 0 (client_at s c).log.own

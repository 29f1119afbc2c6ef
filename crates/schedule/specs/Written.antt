-- Events whose lines read as these events, and where they stand in a file.
use Rattle.std.specs.Prelude.{◌≡◌, ◌≢◌, ◌⊎◌, ⊤, ℕ, ◌+◌, ◌<◌, ◌≤◌, false, List, [], ◌∷◌, ◌++◌, All, None, codes, length, slice_index_or}
use Rattle.std.specs.Char.{IsScalar}
use Rattle.mz_base.specs.Lines.{lines_of}
use Rattle.mz_base.specs.declared.event.Event.{Event}
use Rattle.mz_base.specs.declared.event.Event.TheVariants as event
use Rattle.mz_base.specs.declared.logs.Names.{Names}
use Rattle.schedule.specs.Names.{IsNamed}
use Rattle.schedule.specs.Readings.{Part, is_heading, reading_of, reading_with}
use Rattle.schedule.specs.Texts.{schedule_text}
use Rattle.schedule.specs.declared.event_line.TheConstants.{MOST_NUMBER}

-- a character, and neither of the two that part fields and lines
pub record IsFieldCharacter (c : ℕ) : Type 0 where
  pub is : IsScalar c
  pub no_tab : c ≢ 9
  pub no_feed : c ≢ 10

-- a name without a tab and a line feed
abbrev pub IsFieldName : List ℕ → Type 0
IsFieldName name = All IsFieldCharacter name

-- no name stands twice
abbrev pub AreApart : List (List ℕ) → Type 0
AreApart names = (i j : ℕ) → i < j → j < length names → slice_index_or names i [] ≢ slice_index_or names j []

-- the name does not end in a carriage return, which a line's end would lose
abbrev pub EndsInNoReturn : List ℕ → Type 0
EndsInNoReturn name = (front : List ℕ) → name ≢ front ++ 13 ∷ []

-- names that can be told in a schedule
pub record CanBeTold (names : Names) : Type 0 where
  pub users : All IsFieldName names.users
  pub users_apart : AreApart names.users
  pub clients : All IsFieldName names.clients
  pub clients_apart : AreApart names.clients
  pub clients_end : All EndsInNoReturn names.clients

-- the job, or the reload, of an event is a number that reads
abbrev pub IsInRange : Event → Type 0
IsInRange (event.Job job outcome) = job ≤ MOST_NUMBER
IsInRange (event.Dict user reload) = reload ≤ MOST_NUMBER
IsInRange (event.Learn client) = ⊤
IsInRange (event.Take client job) = job ≤ MOST_NUMBER
IsInRange (event.Await client job) = job ≤ MOST_NUMBER
IsInRange (event.NotYet client) = ⊤
IsInRange (event.Step client) = ⊤
IsInRange (event.End client) = ⊤
IsInRange event.Close = ⊤

-- the user, or the client, of an event is there, and its number is in range
abbrev pub CanBePrinted : Names → Event → Type 0
CanBePrinted names event = IsNamed names event × IsInRange event

-- so is each event of a file
abbrev pub EventsCanBePrinted : Names → List (List ℕ) → Type 0
EventsCanBePrinted names lines =
    All (λ (found : ℕ × Event). CanBePrinted names found.1) (reading_of names lines).events

-- the text ends with a line feed
abbrev pub EndsInFeed : List ℕ → Type 0
EndsInFeed text = (front : List ℕ) × (text ≡ front ++ 10 ∷ [])

-- whole lines, or nothing, and none of the lines is `schedule`
pub record StandsAbove (text : List ℕ) : Type 0 where
  pub whole : (text ≡ []) ⊎ EndsInFeed text
  pub no_heading : All (λ line. is_heading line ≡ false) (lines_of text)

-- nothing, or the line `certificates` and what follows it
abbrev pub StandsBelow : List ℕ → Type 0
StandsBelow text = (text ≡ []) ⊎ ((more : List ℕ) × (text ≡ codes "certificates\n" ++ more))

-- a file with these events below a line `schedule`
abbrev pub file_with : Names → List ℕ → List Event → List ℕ → List ℕ
file_with names above events below = above ++ (codes "schedule\n" ++ (schedule_text names events ++ below))

-- events on lines from this number on
abbrev pub numbered : ℕ → List Event → List (ℕ × Event)
numbered number [] = []
numbered number (event ∷ events) = (number, event) ∷ numbered (number + 1) events

-- events that all read, from the line of this number on
abbrev pub all_read : ℕ → List Event → Part
all_read number events = record { events = numbered number events; bad = None }

-- The events are read from the line after `schedule` on, one a line, and nothing else is.
abbrev pub ReadAgain : Names → List ℕ → List Event → List ℕ → Type 0
ReadAgain names above events below =
    let lines = lines_of (file_with names above events below) in
    reading_of names lines ≡ reading_with (all_read (length (lines_of above) + 2) events) (length lines)

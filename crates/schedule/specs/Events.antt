-- The event of a line: docs/FORMATS.md, "Schedules".
use Rattle.std.specs.Prelude.{ℕ, List, [], ◌∷◌, Option, Some, None, option_map, option_and_then, if◌then◌else◌, codes, bytes_eq, nat_le}
use Rattle.std.specs.Str.{is_utf8}
use Rattle.mz_base.specs.Lines.{fields_of}
use Rattle.mz_base.specs.Numbers.{number_of}
use Rattle.mz_base.specs.declared.event.Event.{Event}
use Rattle.mz_base.specs.declared.event.Event.TheVariants as event
use Rattle.mz_base.specs.declared.event.Outcome.{Outcome}
use Rattle.mz_base.specs.declared.event.Outcome.TheVariants.{Published, Refused, Skipped}
use Rattle.schedule.specs.declared.event_line.TheConstants.{MOST_NUMBER}

-- whom a field names: a user's number, a client's number
pub record WhoIs : Type 0 where
  pub user : List ℕ → Option ℕ
  pub client : List ℕ → Option ℕ

-- a number that 32 bits hold
abbrev pub in_range : ℕ → Option ℕ
in_range n = if nat_le n MOST_NUMBER then Some n else None

-- the number of a job, or of a reload
abbrev pub number_in : List ℕ → Option ℕ
number_in field = option_and_then in_range (number_of field)

-- what became of a job
unfoldable pub outcome_in : List ℕ → Option Outcome
outcome_in word =
    if bytes_eq word (codes "published") then Some Published else
    if bytes_eq word (codes "refused") then Some Refused else
    if bytes_eq word (codes "skipped") then Some Skipped else
    None

-- the event of two parts, where both are there
abbrev pub both : {A B : Type 0} → (A → B → Event) → Option A → Option B → Option Event
both made first second = option_and_then (λ a. option_map (made a) second) first

-- the event of a word alone
abbrev pub alone : List ℕ → Option Event
alone word = if bytes_eq word (codes "close") then Some event.Close else None

-- the event of a word and a field
unfoldable pub of_client : (List ℕ → Option ℕ) → List ℕ → List ℕ → Option Event
of_client client word name =
    if bytes_eq word (codes "step") then option_map (λ c. event.Step c) (client name) else
    if bytes_eq word (codes "learn") then option_map (λ c. event.Learn c) (client name) else
    if bytes_eq word (codes "notyet") then option_map (λ c. event.NotYet c) (client name) else
    if bytes_eq word (codes "end") then option_map (λ c. event.End c) (client name) else
    None

-- the event of a word and two fields
unfoldable pub of_two : WhoIs → List ℕ → List ℕ → List ℕ → Option Event
of_two who word field last =
    if bytes_eq word (codes "take") then both (λ c k. event.Take c k) (who.client field) (number_in last) else
    if bytes_eq word (codes "await") then both (λ c k. event.Await c k) (who.client field) (number_in last) else
    if bytes_eq word (codes "job") then both (λ j o. event.Job j o) (number_in field) (outcome_in last) else
    if bytes_eq word (codes "dict") then both (λ u r. event.Dict u r) (who.user field) (number_in last) else
    None

-- the event of a line's fields
abbrev pub event_in : WhoIs → List (List ℕ) → Option Event
event_in who (word ∷ []) = alone word
event_in who (word ∷ field ∷ []) = of_client who.client word field
event_in who (word ∷ field ∷ last ∷ []) = of_two who word field last
event_in who _ = None

-- the event of a line, where it is text
abbrev pub event_of : WhoIs → List ℕ → Option Event
event_of who line = if is_utf8 line then event_in who (fields_of line) else None

-- Users and clients: by their names they have numbers, from 1, and by their numbers names.
use Rattle.std.specs.Prelude.{ℕ, ◌+◌, ◌-◌, ◌≤◌, ⊤, length, List, [], ◌∷◌, Option, Some, None, if◌then◌else◌, bytes_eq, encode_utf8_all, slice_index_or}
use Rattle.std.specs.HashMap.{get_by_text}
use Rattle.mz_base.specs.declared.event.Event.{Event}
use Rattle.mz_base.specs.declared.event.Event.TheVariants as event
use Rattle.mz_base.specs.declared.logs.Names.{Names}
use Rattle.schedule.specs.Events.{WhoIs}
use Rattle.schedule.specs.declared.numbers.Directory.{Directory}
use Rattle.schedule.specs.declared.numbers.Numbers.{Numbers}

-- the number of the first of these names that the field spells; the first name has this number
abbrev pub number_from : ℕ → List (List ℕ) → List ℕ → Option ℕ
number_from number [] field = None
number_from number (name ∷ names) field =
    if bytes_eq (encode_utf8_all name) field then Some number else number_from (number + 1) names field

-- the number of a name
abbrev pub number_of_name : List (List ℕ) → List ℕ → Option ℕ
number_of_name names field = number_from 1 names field

-- the name of a number
abbrev pub name_of : List (List ℕ) → ℕ → List ℕ
name_of names number = slice_index_or names (number - 1) []

-- the number of one of these names
pub record IsOneOf (names : List (List ℕ)) (number : ℕ) : Type 0 where
  pub first : 1 ≤ number
  pub last : number ≤ length names

-- the user, or the client, of an event is there
abbrev pub IsNamed : Names → Event → Type 0
IsNamed names (event.Job job outcome) = ⊤
IsNamed names (event.Dict user reload) = IsOneOf names.users user
IsNamed names (event.Learn client) = IsOneOf names.clients client
IsNamed names (event.Take client job) = IsOneOf names.clients client
IsNamed names (event.Await client job) = IsOneOf names.clients client
IsNamed names (event.NotYet client) = IsOneOf names.clients client
IsNamed names (event.Step client) = IsOneOf names.clients client
IsNamed names (event.End client) = IsOneOf names.clients client
IsNamed names event.Close = ⊤

-- the number that is noted for a field
abbrev pub noted : Numbers → List ℕ → Option ℕ
noted numbers field = get_by_text numbers.by_name field

-- who a name is
abbrev pub who_is : Names → WhoIs
who_is names = record { user = number_of_name names.users; client = number_of_name names.clients }

-- who a name is by what is noted
abbrev pub who_in : Directory → WhoIs
who_in directory = record { user = noted directory.users; client = noted directory.clients }

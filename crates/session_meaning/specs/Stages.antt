-- What a session is: docs/FORMATS.md, "Session".
use Rattle.std.specs.Prelude.{ℕ, Bool, false, List, [], ◌∷◌, map, slice_index_or, slice_range}
use Rattle.std.specs.List.{flat_map}
use Rattle.mz_base.specs.Data.{DataLists}
use Rattle.mz_base.specs.declared.conversion.Conversion.{Conversion}
use Rattle.mz_base.specs.declared.conversion.Segment.{Segment}
use Rattle.mz_base.specs.declared.lattice.Candidate.{Candidate}
use Rattle.mz_base.specs.declared.lattice.Pair.{Pair}
use Rattle.mz_base.specs.declared.report.Mode.{Mode}
use Rattle.mz_base.specs.declared.report.Mode.TheVariants as mode
use Rattle.mz_base.specs.declared.romaji.Rule.{Rule}
use Rattle.mz_base.specs.declared.user.UserRow.{UserRow}
use Rattle.composer.specs.Composing.{Composing, base_of, cursor_of, preedit_of, reading_of}
use Rattle.conversion_meaning.specs.Suggestions.{suggestions}

-- the data that a composition keeps: a version of the data set, and of the user's history and dictionary
pub record Pinned : Type 0 where
  pub version : ℕ
  pub lists : DataLists
  pub history : List Pair
  pub rows : List UserRow

-- what is composed, and with which data
pub record Composition : Type 0 where
  pub pinned : Pinned
  pub text : Composing

-- what a person chooses from: the conversion, the place of the segment in focus, and the place of each segment's chosen
-- candidate
pub record Choice : Type 0 where
  pub conversion : Conversion
  pub focus : ℕ
  pub chosen : List ℕ

-- precomposition, composition, conversion
pub data Stage : Type 0 where
  P : Stage
  C : Composition → Stage
  V : Composition → Choice → Stage

-- A session: its stage, the text of its last commit, and whether its last command made its conversion.
pub record Session : Type 0 where
  pub stage : Stage
  pub last : List ℕ
  pub fresh : Bool

-- it begins in precomposition, with nothing committed
abbrev pub opening : Session
opening = record { stage = P; last = []; fresh = false }

-- ---- What is composed

abbrev pub rules_of : Composition → List Rule
rules_of c = c.pinned.lists.rules

abbrev pub preedit : Composition → List ℕ
preedit c = preedit_of (rules_of c) c.text

abbrev pub cursor : Composition → ℕ
cursor c = cursor_of (rules_of c) c.text

abbrev pub reading : Composition → List ℕ
reading c = reading_of (rules_of c) c.text

-- what is suggested for what is shown and no longer pending
abbrev pub suggested : Composition → List Pair
suggested c = suggestions c.pinned.lists c.pinned.history (base_of (rules_of c) c.text)

-- ---- What is chosen

abbrev pub no_segment : Segment
no_segment = record { begin = 0; end = 0; candidates = [] }

-- the segment in focus, and the place of its chosen candidate
abbrev pub segment_in_focus : Choice → Segment
segment_in_focus v = slice_index_or v.conversion.segments v.focus no_segment

abbrev pub chosen_in_focus : Choice → ℕ
chosen_in_focus v = slice_index_or v.chosen v.focus 0

-- the value at a place of a segment's list
abbrev pub value_at : Segment → ℕ → List ℕ
value_at segment place =
    slice_index_or (map (λ (candidate : Candidate). candidate.value) segment.candidates) place []

-- the segments with the places of their chosen candidates
abbrev pub picks_from : List Segment → List ℕ → List (Segment × ℕ)
picks_from [] places = []
picks_from (segment ∷ segments) [] = (segment, 0) ∷ picks_from segments []
picks_from (segment ∷ segments) (place ∷ places) = (segment, place) ∷ picks_from segments places

abbrev pub picks : Choice → List (Segment × ℕ)
picks v = picks_from v.conversion.segments v.chosen

-- the chosen values
abbrev pub chosen_values : Choice → List (List ℕ)
chosen_values v = map (λ (pick : Segment × ℕ). value_at pick.0 pick.1) (picks v)

-- joined
abbrev pub chosen_text : Choice → List ℕ
chosen_text v = flat_map (λ value. value) (chosen_values v)

-- a pair for each segment: its part of the key, and the chosen value
abbrev pub chosen_pairs : Composition → Choice → List Pair
chosen_pairs c v =
    map (λ (pick : Segment × ℕ). record { key = slice_range (reading c) pick.0.begin pick.0.end; value = value_at pick.0 pick.1 }) (picks v)

-- ---- What is shown

abbrev pub mode_of : Stage → Mode
mode_of P = mode.P
mode_of (C c) = mode.C
mode_of (V c v) = mode.V

-- the version of the data; 0 in precomposition
abbrev pub version_of : Stage → ℕ
version_of P = 0
version_of (C c) = c.pinned.version
version_of (V c v) = c.pinned.version

-- the shown text
abbrev pub shown : Stage → List ℕ
shown P = []
shown (C c) = preedit c
shown (V c v) = chosen_text v

-- What a command comes to, mode by mode: docs/FORMATS.md, "Session".
use Rattle.std.specs.Prelude.{ℕ, ◌+◌, ◌-◌, ◌%◌, ◌==◌, ◌&&◌, Bool, ℤ, pos, neg_ℤ, List, [], ◌∷◌, Option, Some, None, if◌then◌else◌, length, map, min, nat_le, nat_lt, slice_get, slice_set, take}
use Rattle.std.specs.List.{position_or_len}
use Rattle.mz_base.specs.Data.{is_text}
use Rattle.mz_base.specs.declared.conversion.Conversion.{Conversion}
use Rattle.mz_base.specs.declared.conversion.Segment.{Segment}
use Rattle.mz_base.specs.declared.lattice.Candidate.{Candidate}
use Rattle.mz_base.specs.declared.lattice.Pair.{Pair}
use Rattle.mz_base.specs.declared.lattice.TheConstants.{MOST_KEY}
use Rattle.composer.specs.Composing.{Composing, backspaced, deleted, inserted, moved_end, moved_home, moved_left, moved_right}
use Rattle.composer.specs.declared.composer.TheConstants.{MOST_SHOWN}
use Rattle.conversion_meaning.specs.Answers.{answer}
use Rattle.conversion_meaning.specs.Segments.{resized}
use Rattle.conversion_meaning.specs.declared.rules.TheConstants.{RULE_ORDER}
use Rattle.keys.specs.declared.action.Action.{Action}
use Rattle.keys.specs.declared.action.Action.TheVariants as action
use Rattle.session_meaning.specs.Stages.{Choice, Composition, Pinned, Stage, C, P, V, chosen_in_focus, chosen_text, picks, preedit, reading, rules_of, segment_in_focus, suggested, value_at}

-- what a command comes to: it has no meaning here; the preedit is full; the session goes on with a stage; a conversion was
-- made; a text is committed, and the session goes on with a stage
pub data Outcome : Type 0 where
  Passed : Outcome
  Filled : Outcome
  Went : Stage → Outcome
  Converted : Composition → Choice → Outcome
  Committed : List ℕ → Stage → Outcome

-- ---- Precomposition

abbrev pub empty : Composing
empty = record { left = []; run = []; right = [] }

-- a character begins a composition with the data that were taken
abbrev pub begun : Option Pinned → ℕ → Stage
begun None letter = P
begun (Some pinned) letter = C (record { pinned = pinned; text = inserted empty letter })

abbrev pub in_precomposition : Option Pinned → Action → Outcome
in_precomposition taken (action.Insert letter) = Went (begun taken letter)
in_precomposition taken _ = Passed

-- ---- Composition

-- the text is another one now
abbrev pub with_text : Composition → Composing → Stage
with_text c text = C (record c { text = text })

abbrev pub typed : Composition → ℕ → Outcome
typed c letter =
    if nat_le MOST_SHOWN (length (preedit c)) then Filled else Went (with_text c (inserted c.text letter))

-- the conversion of the reading by the pinned data
abbrev pub conversion_of : Composition → List ℕ → Conversion
conversion_of c bounds =
    answer c.pinned.lists c.pinned.rows c.pinned.history RULE_ORDER (reading c) bounds

-- the first segment in focus, each with its first candidate
abbrev pub first_choice : Conversion → Choice
first_choice conversion =
    record { conversion = conversion; focus = 0; chosen = map (λ segment. 0) conversion.segments }

-- the reading is converted without bounds, where it has a key's length
abbrev pub can_convert : Composition → Bool
can_convert c = nat_lt 0 (length (reading c)) && nat_le (length (reading c)) MOST_KEY

abbrev pub converted : Composition → Outcome
converted c = if can_convert c then Converted c (first_choice (conversion_of c [])) else Passed

abbrev pub in_composition : Composition → Action → Outcome
in_composition c (action.Insert letter) = typed c letter
in_composition c action.Convert = converted c
in_composition c action.Commit = Committed (reading c) P
in_composition c action.Cancel = Went P
in_composition c action.Backspace = Went (with_text c (backspaced (rules_of c) c.text))
in_composition c action.Delete = Went (with_text c (deleted (rules_of c) c.text))
in_composition c action.Left = Went (with_text c (moved_left (rules_of c) c.text))
in_composition c action.Right = Went (with_text c (moved_right (rules_of c) c.text))
in_composition c action.Home = Went (with_text c (moved_home (rules_of c) c.text))
in_composition c action.End = Went (with_text c (moved_end (rules_of c) c.text))
in_composition c _ = Passed

-- the item of this number, from 1
abbrev pub at_number : {A : Type 0} → List A → ℕ → Option A
at_number items number = if number == 0 then None else slice_get items (number - 1)

-- the pair of a suggestion
abbrev pub suggestion_at : Composition → ℕ → Option Pair
suggestion_at c number = at_number (suggested c) number

abbrev pub took_suggestion : Option Pair → Outcome
took_suggestion None = Passed
took_suggestion (Some pair) = Committed pair.value P

-- ---- Conversion

-- another candidate of the segment in focus
abbrev pub with_chosen : Choice → ℕ → Choice
with_chosen v place = record v { chosen = slice_set v.chosen v.focus place }

-- how many candidates the segment in focus has
abbrev pub count_in_focus : Choice → ℕ
count_in_focus v = length (segment_in_focus v).candidates

-- the next one, and the one before, round the ends
abbrev pub next_choice : Choice → Choice
next_choice v = with_chosen v ((chosen_in_focus v + 1) % count_in_focus v)

abbrev pub previous_choice : Choice → Choice
previous_choice v = with_chosen v ((chosen_in_focus v + (count_in_focus v - 1)) % count_in_focus v)

-- another segment in focus; the ends stay
abbrev pub with_focus : Choice → ℕ → Choice
with_focus v place = record v { focus = min place (length v.conversion.segments - 1) }

-- the place of a value in a segment's list, 0 where it is not there
abbrev pub place_of : Segment → List ℕ → ℕ
place_of segment value =
    let values = map (λ (candidate : Candidate). candidate.value) segment.candidates in
    let place = position_or_len (is_text value) values in
    if nat_lt place (length values) then place else 0

-- the places of values that were chosen before, and then first places
abbrev pub kept_places : List Segment → List (List ℕ) → List ℕ
kept_places [] values = []
kept_places (segment ∷ segments) [] = 0 ∷ kept_places segments []
kept_places (segment ∷ segments) (value ∷ values) = place_of segment value ∷ kept_places segments values

-- the values that are chosen before the focus
abbrev pub values_before : Choice → List (List ℕ)
values_before v = take v.focus (map (λ (pick : Segment × ℕ). value_at pick.0 pick.1) (picks v))

-- the same focus in a conversion within new bounds
abbrev pub rechosen : Choice → Conversion → Choice
rechosen v conversion =
    record { conversion = conversion; focus = v.focus; chosen = kept_places conversion.segments (values_before v) }

abbrev pub parts_of : Choice → List (ℕ × ℕ)
parts_of v = map (λ (segment : Segment). (segment.begin, segment.end)) v.conversion.segments

-- the segment in focus is wider by so many characters, where it can be
abbrev pub reconverted : Composition → Choice → Option (List ℕ) → Outcome
reconverted c v None = Passed
reconverted c v (Some bounds) = Converted c (rechosen v (conversion_of c bounds))

abbrev pub widened : Composition → Choice → ℤ → Outcome
widened c v by = reconverted c v (resized (parts_of v) v.focus by (length (reading c)))

abbrev pub in_conversion : Composition → Choice → Option Pinned → Action → Outcome
in_conversion c v taken action.Next = Went (V c (next_choice v))
in_conversion c v taken action.Previous = Went (V c (previous_choice v))
in_conversion c v taken action.Left = Went (V c (with_focus v (v.focus - 1)))
in_conversion c v taken action.Right = Went (V c (with_focus v (v.focus + 1)))
in_conversion c v taken action.Home = Went (V c (with_focus v 0))
in_conversion c v taken action.End = Went (V c (with_focus v (length v.conversion.segments - 1)))
in_conversion c v taken action.Widen = widened c v (pos 1)
in_conversion c v taken action.Narrow = widened c v (neg_ℤ (pos 1))
in_conversion c v taken action.Commit = Committed (chosen_text v) P
in_conversion c v taken action.Cancel = Went (C c)
in_conversion c v taken (action.CommitThenInsert letter) = Committed (chosen_text v) (begun taken letter)
in_conversion c v taken _ = Passed

-- the candidate of this number, from 1
abbrev pub took_candidate : Composition → Choice → ℕ → Outcome
took_candidate c v number =
    if nat_lt 0 number && nat_le number (count_in_focus v) then Went (V c (with_chosen v (number - 1))) else Passed

-- What a session keeps beside what it means.
use Rattle.std.specs.Prelude.{◌≡◌, ℕ, ℤ, List, Option, length, slice_range}
use Rattle.std.specs.Borrow.{Bor}
use Rattle.std.specs.Option.{option_map}
use Rattle.mz_base.specs.declared.conversion.Conversion.{Conversion}
use Rattle.mz_base.specs.declared.conversion.Segment.{Segment}
use Rattle.mz_base.specs.declared.lattice.Pair.{Pair}
use Rattle.composer.specs.Composing.{seen_of}
use Rattle.composer.specs.declared.composer.Seen.{Seen}
use Rattle.conversion_meaning.specs.Segments.{resized}
use Rattle.session_meaning.specs.Outcomes.{conversion_of, parts_of, rechosen}
use Rattle.session_meaning.specs.Reached.{IsChosen, IsConverted, IsPinnedSound}
use Rattle.session_meaning.specs.Stages.{Choice, Composition, reading, rules_of, suggested, value_at}
use Rattle.session.specs.declared.picks.Pick.{Pick}

-- what is seen of the text, and what is suggested for it
abbrev pub IsShown : Composition → Seen → List Pair → Type 0
IsShown c seen pairs = (seen ≡ seen_of (rules_of c) c.text) × (pairs ≡ suggested c)

-- a composition, and what is chosen of its conversion
pub record Chosen : Type 0 where
  pub composition : Composition
  pub choice : Choice

-- the data are sound, the key is what is read, the conversion is one of it, and each choice is inside its list
pub record IsKept (c : Composition) (key : List ℕ) (v : Choice) : Type 0 where
  pub sound : IsPinnedSound c.pinned
  pub key_is : key ≡ reading c
  pub converted : IsConverted c v.conversion
  pub chosen : IsChosen v

-- a segment with the place of its chosen candidate
abbrev pub pick_of : Pick → Segment × ℕ
pick_of pick = (pick.segment.now, pick.place)

abbrev pub value_of : Segment × ℕ → List ℕ
value_of pick = value_at pick.0 pick.1

-- its part of the key, and the chosen value
abbrev pub pair_of : List ℕ → Segment × ℕ → Pair
pair_of key pick = record { key = slice_range key pick.0.begin pick.0.end; value = value_of pick }

-- the same focus where its segment is wider by so many characters; none where it can't be
abbrev pub rewidened : Chosen → ℤ → Option Chosen
rewidened c by =
    option_map (λ bounds. record c { choice = rechosen c.choice (conversion_of c.composition bounds) }) (resized (parts_of c.choice) c.choice.focus by (length (reading c.composition)))

-- a key and its conversion that are lent
abbrev pub lent : Bor (List ℕ) × Bor Conversion → List ℕ × Conversion
lent pair = (pair.0.now, pair.1.now)

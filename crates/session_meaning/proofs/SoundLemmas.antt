-- What holds of each session that commands reach.
use Rattle.std.proofs.Common.{◌≡◌, refl, sym, subst, ℕ, suc, ◌+◌, ◌-◌, ◌<◌, ◌≤◌, Bool, true, false, List, [], ◌∷◌, ◌++◌, map, take, Option, Some, None, if◌then◌else◌, length, ◌==◌, arith}
use Rattle.std.specs.Prelude.{⊤, ◌&&◌, ℤ, pos, neg_ℤ, IfSome, nat_le, nat_lt, unsigned_abs}
use Rattle.std.specs.List.{fold}
use Rattle.std.proofs.lemmas.Bool.{false≢true}
use Rattle.std.proofs.lemmas.Bool.Decides.{nat_tests}
use Rattle.std.proofs.lemmas.List.{length-append, length-map, length-take}
use Rattle.mz_base.specs.Data.{is_text}
use Rattle.mz_base.specs.declared.conversion.Conversion.{Conversion}
use Rattle.mz_base.specs.declared.lattice.Pair.{Pair}
use Rattle.mz_base.specs.declared.lattice.TheConstants.{MOST_KEY}
use Rattle.composer.specs.Composing.{inserted}
use Rattle.composer.specs.declared.composer.TheConstants.{MOST_SHOWN}
use Rattle.conversion_meaning.specs.Lattices.{AreBounds, IsKey}
use Rattle.conversion_meaning.specs.SegmentLaws.{AreTouching, part_of}
use Rattle.conversion_meaning.specs.Segments.{can_widen, resized, wider_end}
use Rattle.conversion_meaning.proofs.SegmentLemmas.{segments-keep_bounds, segments-some, segments-touch}
use Rattle.conversion_meaning.proofs.SegmentValues.{segments-have_values}
use Rattle.keys.specs.Bindings.{action_in}
use Rattle.keys.specs.declared.action.Action.{Action}
use Rattle.keys.specs.declared.action.Action.TheVariants as action
use Rattle.keys.specs.declared.command.Command.{Command}
use Rattle.keys.specs.declared.command.Command.TheVariants as command
use Rattle.conversion_meaning.specs.declared.rules.TheConstants.{RULE_ORDER}
use Rattle.session_meaning.specs.Outcomes.{Outcome, Committed, Converted, Filled, Passed, Went, begun, can_convert, conversion_of, converted, count_in_focus, first_choice, parts_of, rechosen, reconverted, suggestion_at, took_candidate, took_suggestion, widened, with_chosen, with_text}
use Rattle.session_meaning.specs.Reached.{AreTakenSound, IsComposed, IsConverted, IsPinnedSound, IsSound, IsStage}
use Rattle.session_meaning.specs.ReachedLaws.{ReachedIsSound, ResizedAreBounds, SoundStays}
use Rattle.session_meaning.specs.Stages.{Choice, Composition, Pinned, Session, Stage, C, P, V, chosen_in_focus, mode_of, opening, preedit, reading, shown}
use Rattle.session_meaning.specs.Steps.{after, compared, differs, met, pressed, selected, settled, step}
use Rattle.session_meaning.proofs.ChoiceLemmas.{AreBounds-resized, HaveValues, IsChosen-first, IsChosen-focus, IsChosen-rechosen, IsChosen-turned, IsChosen-with, few-bounds}

-- ---- A conversion within bounds

module _ (c : Composition) (sound : IsPinnedSound c.pinned) (key : IsKey (reading c)) (bounds : List ℕ) (are : AreBounds (reading c) bounds) where
  pub conversion-some : 0 < length (conversion_of c bounds).segments
  conversion-some =
      segments-some c.pinned.lists c.pinned.rows (reading c) bounds sound.lists key are c.pinned.history RULE_ORDER

  pub conversion-valued : HaveValues (conversion_of c bounds).segments
  conversion-valued =
      segments-have_values c.pinned.lists c.pinned.rows c.pinned.history RULE_ORDER (reading c) bounds sound.lists key are

  pub conversion-touches : AreTouching 0 (length (reading c)) (map part_of (conversion_of c bounds).segments)
  conversion-touches =
      segments-touch c.pinned.lists c.pinned.rows (reading c) bounds sound.lists key are c.pinned.history RULE_ORDER

  pub conversion-keeps : length bounds ≤ length (conversion_of c bounds).segments
  conversion-keeps =
      few-bounds (conversion_of c bounds).segments bounds (segments-keep_bounds c.pinned.lists c.pinned.rows c.pinned.history RULE_ORDER (reading c) bounds)

  pub IsConverted-within : IsConverted c (conversion_of c bounds)
  IsConverted-within = record { key = key; within = (bounds, are, refl) }

-- ---- Of each outcome

-- a stage before it is settled: a composition may show nothing yet
abbrev IsGoing : Stage → Type 0
IsGoing P = ⊤
IsGoing (C c) = IsPinnedSound c.pinned
IsGoing (V c v) = IsStage (V c v)

abbrev SoundBy : Outcome → Type 0
SoundBy Passed = ⊤
SoundBy Filled = ⊤
SoundBy (Went stage) = IsGoing stage
SoundBy (Converted c v) = IsStage (V c v)
SoundBy (Committed text stage) = IsGoing stage

some_not_zero : (n : ℕ) → (n == 0) ≡ false → 0 < n
some_not_zero n is = grind (arith, nat_tests)

sound-shown : (c : Composition) → IsPinnedSound c.pinned → (b : Bool) → (length (preedit c) == 0) ≡ b → IsStage (if b then P else C c)
sound-shown c sound true is = tt
sound-shown c sound false is = record { pinned = sound; shows = some_not_zero (length (preedit c)) is }

sound-settled : (stage : Stage) → IsGoing stage → IsStage (settled stage)
sound-settled P is = tt
sound-settled (C c) is = sound-shown c is (length (preedit c) == 0) refl
sound-settled (V c v) is = is

sound-after : (s : Session) (o : Outcome) → IsSound s → SoundBy o → IsSound (after s o).session
sound-after s Passed is by = is
sound-after s Filled is by = is
sound-after s (Went stage) is by = sound-settled stage by
sound-after s (Converted c v) is by = by
sound-after s (Committed text stage) is by = sound-settled stage by

either : (b : Bool) (one other : Outcome) → (b ≡ true → SoundBy one) → SoundBy other → SoundBy (if b then one else other)
either true one other here there = here refl
either false one other here there = there

-- ---- Precomposition and composition

sound-begun : (taken : Option Pinned) (letter : ℕ) → IfSome taken IsPinnedSound → IsGoing (begun taken letter)
sound-begun None letter sound = tt
sound-begun (Some pinned) letter sound = sound

and_left : (a b : Bool) → (a && b) ≡ true → a ≡ true
and_left true b is = refl
and_left false b is = is

and_right : (a b : Bool) → (a && b) ≡ true → b ≡ true
and_right true b is = is
and_right false b is = absurd (false≢true is)

IsKey-can_convert : (c : Composition) → can_convert c ≡ true → IsKey (reading c)
IsKey-can_convert c is =
    let low = and_left (nat_lt 0 (length (reading c))) (nat_le (length (reading c)) MOST_KEY) is in
    let high = and_right (nat_lt 0 (length (reading c))) (nat_le (length (reading c)) MOST_KEY) is in
    record { some = lt-from (length (reading c)) low; few = le-from (length (reading c)) high }
  where
    lt-from : (n : ℕ) → nat_lt 0 n ≡ true → 0 < n
    lt-from n is = grind (arith, nat_tests)

    le-from : (n : ℕ) → nat_le n MOST_KEY ≡ true → n ≤ MOST_KEY
    le-from n is = grind (arith, nat_tests)

pub AreBounds-none : (key : List ℕ) → AreBounds key []
AreBounds-none key =
    record { rising = λ k inside. absurd (omega (arith, inside)); inside = λ k d inside. absurd (omega (arith, inside)) }

sound-converted : (c : Composition) → IsComposed c → SoundBy (converted c)
sound-converted c is =
    either (can_convert c) (Converted c (first_choice (conversion_of c []))) Passed made tt
  where
    made : can_convert c ≡ true → IsStage (V c (first_choice (conversion_of c [])))
    made can =
        let key = IsKey-can_convert c can in
        let are = AreBounds-none (reading c) in
        (is, IsConverted-within c is.pinned key [] are, IsChosen-first (conversion_of c []) (conversion-some c is.pinned key [] are) (conversion-valued c is.pinned key [] are))

-- ---- Conversion

-- the ends of the segments before the focus, and the new end there
abbrev new_ends : Choice → ℤ → List ℕ
new_ends v by =
    map (λ (part : ℕ × ℕ). part.1) (take v.focus (parts_of v)) ++ unsigned_abs (wider_end (parts_of v) v.focus by) ∷ []

pub ends-past_focus : (parts : List (ℕ × ℕ)) (focus end : ℕ) → focus < length parts → length (map (λ (part : ℕ × ℕ). part.1) (take focus parts) ++ end ∷ []) ≡ focus + 1
ends-past_focus parts focus end inside =
    let joined = length-append (map (λ (part : ℕ × ℕ). part.1) (take focus parts)) (end ∷ []) in
    let mapped = length-map (take focus parts) (λ (part : ℕ × ℕ). part.1) in
    let front = length-take focus parts in
    omega (arith, joined, mapped, front)

module _ (c : Composition) (v : Choice) (is : IsStage (V c v)) where
  pub parts-touch : AreTouching 0 (length (reading c)) (parts_of v)
  parts-touch =
      let r = is.1.within in
      subst (λ (conversion : Conversion). AreTouching 0 (length (reading c)) (map part_of conversion.segments)) (sym r.2) (conversion-touches c is.0.pinned is.1.key r.0 r.1)

  focus-inside : v.focus < length (parts_of v)
  focus-inside =
      let focus = is.2.focus in
      let mapped = length-map v.conversion.segments part_of in
      omega (arith, focus, mapped)

  AreBounds-new : (by : ℤ) → can_widen (parts_of v) v.focus by (length (reading c)) ≡ true → AreBounds (reading c) (new_ends v by)
  AreBounds-new by can = AreBounds-resized (reading c) (parts_of v) v.focus by parts-touch focus-inside can

  focus-below : (by : ℤ) → can_widen (parts_of v) v.focus by (length (reading c)) ≡ true → v.focus < length (conversion_of c (new_ends v by)).segments
  focus-below by can =
      let ends = ends-past_focus (parts_of v) v.focus (unsigned_abs (wider_end (parts_of v) v.focus by)) focus-inside in
      let keeps = conversion-keeps c is.0.pinned is.1.key (new_ends v by) (AreBounds-new by can) in
      omega (arith, ends, keeps)

  IsStage-new : (by : ℤ) → can_widen (parts_of v) v.focus by (length (reading c)) ≡ true → IsStage (V c (rechosen v (conversion_of c (new_ends v by))))
  IsStage-new by can =
      let are = AreBounds-new by can in
      (is.0, IsConverted-within c is.0.pinned is.1.key (new_ends v by) are, IsChosen-rechosen v (conversion_of c (new_ends v by)) (focus-below by can) (conversion-valued c is.0.pinned is.1.key (new_ends v by) are))

sound-widened : (c : Composition) (v : Choice) (by : ℤ) → IsStage (V c v) → SoundBy (widened c v by)
unfolding resized
sound-widened c v by is = by_test (can_widen (parts_of v) v.focus by (length (reading c))) refl
  where
    by_test : (b : Bool) → can_widen (parts_of v) v.focus by (length (reading c)) ≡ b → SoundBy (reconverted c v (if b then Some (new_ends v by) else None))
    by_test true can = IsStage-new c v is by can
    by_test false can = tt

-- the bounds of a resize are bounds of the reading
pub resized-bounds : ResizedAreBounds
unfolding resized
resized-bounds c v by is = by_test (can_widen (parts_of v) v.focus by (length (reading c))) refl
  where
    by_test : (b : Bool) → can_widen (parts_of v) v.focus by (length (reading c)) ≡ b → IfSome (if b then Some (new_ends v by) else None) (AreBounds (reading c))
    by_test true can = AreBounds-new c v is by can
    by_test false can = tt

sound-candidate : (c : Composition) (v : Choice) (number : ℕ) → IsStage (V c v) → SoundBy (took_candidate c v number)
sound-candidate c v number is =
    either (nat_lt 0 number && nat_le number (count_in_focus v)) (Went (V c (with_chosen v (number - 1)))) Passed made tt
  where
    inside : (n count : ℕ) → (nat_lt 0 n && nat_le n count) ≡ true → n - 1 < count
    inside n count is = grind (arith, nat_tests)

    made : (nat_lt 0 number && nat_le number (count_in_focus v)) ≡ true → IsStage (V c (with_chosen v (number - 1)))
    made within = (is.0, is.1, IsChosen-with v (number - 1) is.2 (inside number (count_in_focus v) within))

-- ---- Of each command

sound-pressed : (stage : Stage) (taken : Option Pinned) (act : Option Action) → IsStage stage → IfSome taken IsPinnedSound → SoundBy (pressed stage taken act)
sound-pressed P taken (Some (action.Insert letter)) is data_are = sound-begun taken letter data_are
sound-pressed P taken _ is data_are = tt
sound-pressed (C c) taken (Some (action.Insert letter)) is data_are =
    either (nat_le MOST_SHOWN (length (preedit c))) Filled (Went (with_text c (inserted c.text letter))) (λ full. tt) is.pinned
sound-pressed (C c) taken (Some action.Convert) is data_are = sound-converted c is
sound-pressed (C c) taken (Some action.Backspace) is data_are = is.pinned
sound-pressed (C c) taken (Some action.Delete) is data_are = is.pinned
sound-pressed (C c) taken (Some action.Left) is data_are = is.pinned
sound-pressed (C c) taken (Some action.Right) is data_are = is.pinned
sound-pressed (C c) taken (Some action.Home) is data_are = is.pinned
sound-pressed (C c) taken (Some action.End) is data_are = is.pinned
sound-pressed (C c) taken _ is data_are = tt
sound-pressed (V c v) taken (Some action.Cancel) is data_are = is.0.pinned
sound-pressed (V c v) taken (Some action.Left) is data_are = (is.0, is.1, IsChosen-focus v (v.focus - 1) is.2)
sound-pressed (V c v) taken (Some action.Right) is data_are = (is.0, is.1, IsChosen-focus v (v.focus + 1) is.2)
sound-pressed (V c v) taken (Some action.Home) is data_are = (is.0, is.1, IsChosen-focus v 0 is.2)
sound-pressed (V c v) taken (Some action.End) is data_are =
    (is.0, is.1, IsChosen-focus v (length v.conversion.segments - 1) is.2)
sound-pressed (V c v) taken (Some action.Next) is data_are =
    (is.0, is.1, IsChosen-turned v (chosen_in_focus v + 1) is.2)
sound-pressed (V c v) taken (Some action.Previous) is data_are =
    (is.0, is.1, IsChosen-turned v (chosen_in_focus v + (count_in_focus v - 1)) is.2)
sound-pressed (V c v) taken (Some action.Widen) is data_are = sound-widened c v (pos 1) is
sound-pressed (V c v) taken (Some action.Narrow) is data_are = sound-widened c v (neg_ℤ (pos 1)) is
sound-pressed (V c v) taken (Some (action.CommitThenInsert letter)) is data_are = sound-begun taken letter data_are
sound-pressed (V c v) taken _ is data_are = tt

sound-suggestion : (found : Option Pair) → SoundBy (took_suggestion found)
sound-suggestion None = tt
sound-suggestion (Some pair) = tt

sound-selected : (stage : Stage) (number : ℕ) → IsStage stage → SoundBy (selected stage number)
sound-selected P number is = tt
sound-selected (C c) number is = sound-suggestion (suggestion_at c number)
sound-selected (V c v) number is = sound-candidate c v number is

sound-compared : (s : Session) (wanted found : List ℕ) → IsSound s → IsSound (compared s wanted found).session
sound-compared s wanted found is = by_test (is_text wanted found)
  where
    by_test : (b : Bool) → IsSound (if b then met s else differs s found).session
    by_test true = is
    by_test false = is

pub sound-step : SoundStays
unfolding step
sound-step s (command.Key key) taken is data_are =
    sound-after s (pressed s.stage taken (action_in (mode_of s.stage) key)) is (sound-pressed s.stage taken (action_in (mode_of s.stage) key) is data_are)
sound-step s (command.Select number) taken is data_are = sound-after s (selected s.stage number) is (sound-selected s.stage number is)
sound-step s command.Reset taken is data_are = tt
sound-step s (command.Await number) taken is data_are = is
sound-step s (command.ExpectPreedit text) taken is data_are = sound-compared s text (shown s.stage) is
sound-step s (command.ExpectResult text) taken is data_are = sound-compared s text s.last is

-- ---- Of each run

sound-run : (commands : List (Command × Option Pinned)) (s : Session) → IsSound s → AreTakenSound commands → IsSound (fold (λ session (command : Command × Option Pinned). (step session command.0 command.1).session) s commands)
sound-run [] s is data_are = is
sound-run (first ∷ commands) s is data_are =
    sound-run commands (step s first.0 first.1).session (sound-step s first.0 first.1 is (data_are 0 first (omega arith))) (λ k d inside. data_are (suc k) d (omega (arith, inside)))

pub sound-reached : ReachedIsSound
sound-reached commands data_are = sound-run commands opening tt data_are

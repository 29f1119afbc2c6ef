-- From a conversion back to its composition, and from one conversion to another.
use Rattle.std.proofs.Common.{◌≡◌, refl, ap, ◌∙◌, subst, inl, inr, ℕ, ◌-◌, ◌<◌, Bool, true, false, List, [], Option, Some, None, if◌then◌else◌, length, ◌==◌, arith}
use Rattle.std.specs.Prelude.{⊤, ◌&&◌, ℤ, pos, neg_ℤ, nat_le, nat_lt}
use Rattle.std.proofs.lemmas.Bool.Decides.{nat_tests}
use Rattle.mz_base.specs.Data.{is_text}
use Rattle.mz_base.specs.declared.lattice.Pair.{Pair}
use Rattle.mz_base.specs.declared.report.Mode.TheVariants as mode
use Rattle.composer.specs.Composing.{inserted}
use Rattle.composer.specs.declared.composer.TheConstants.{MOST_SHOWN}
use Rattle.conversion_meaning.specs.Segments.{resized}
use Rattle.keys.specs.Bindings.{action_in}
use Rattle.keys.specs.declared.action.Action.{Action}
use Rattle.keys.specs.declared.action.Action.TheVariants as action
use Rattle.keys.specs.declared.command.Command.{Command}
use Rattle.keys.specs.declared.command.Command.TheVariants as command
use Rattle.session_meaning.specs.Outcomes.{Outcome, Committed, Converted, Filled, Passed, Went, begun, can_convert, conversion_of, count_in_focus, first_choice, parts_of, reconverted, suggestion_at, took_suggestion, with_chosen, with_text}
use Rattle.session_meaning.specs.Reached.{IsStage}
use Rattle.session_meaning.specs.ReachedLaws.{CompositionStays, EscapeShowsComposition, ResizeKeepsFocus, composition_in}
use Rattle.session_meaning.specs.Stages.{Choice, Composition, Pinned, Session, Stage, C, P, V, mode_of, preedit, reading, shown}
use Rattle.session_meaning.specs.Steps.{after, compared, differs, gone, met, pressed, selected, settled, step}

-- ---- Back

settled-shown : (c : Composition) → 0 < length (preedit c) → settled (C c) ≡ C c
settled-shown c some = ap (λ b. if b then P else C c) (not_zero (length (preedit c)) some)
  where
    not_zero : (n : ℕ) → 0 < n → (n == 0) ≡ false
    not_zero n some = grind (arith, nat_tests)

pub escape-step : EscapeShowsComposition
unfolding step
escape-step s c v k taken sound is act =
    let shown_c = (subst IsStage is sound).0.shows in
    let goes = ap (λ stage. pressed stage taken (action_in (mode_of stage) k)) is ∙ ap (pressed (V c v) taken) act in
    ap (after s) goes ∙ ap (λ stage. gone s stage false) (settled-shown c shown_c)

-- ---- To another conversion

refocused : (s : Session) (c : Composition) (v : Choice) (bounds : Option (List ℕ)) → s.stage ≡ V c v → (w : Choice) × ((after s (reconverted c v bounds)).session.stage ≡ V c w) × (w.focus ≡ v.focus)
refocused s c v None is = (v, is, refl)
refocused s c v (Some bounds) is = (_, refl, refl)

pub resize-step : ResizeKeepsFocus
unfolding step
resize-step s c v k taken is resizes = elim resizes [ inl widens ↦ by_action action.Widen (pos 1) widens refl | inr narrows ↦ by_action action.Narrow (neg_ℤ (pos 1)) narrows refl ]
  where
    ends : ℤ → Option (List ℕ)
    ends by = resized (parts_of v) v.focus by (length (reading c))

    by_action : (act : Action) (by : ℤ) → action_in mode.V k ≡ Some act → pressed (V c v) taken (Some act) ≡ reconverted c v (ends by) → (w : Choice) × ((after s (pressed s.stage taken (action_in (mode_of s.stage) k))).session.stage ≡ V c w) × (w.focus ≡ v.focus)
    by_action act by does comes_to =
        let r = refocused s c v (ends by) is in
        let goes = ap (λ stage. pressed stage taken (action_in (mode_of stage) k)) is ∙ (ap (pressed (V c v) taken) does ∙ comes_to) in
        (r.0, ap (λ o. (after s o).session.stage) goes ∙ r.1, r.2)

-- ---- What is converted stays

-- if this is a conversion, it is of the composition that was there before
abbrev StaysIn : Option Composition → Stage → Type 0
StaysIn before P = ⊤
StaysIn before (C c) = ⊤
StaysIn before (V c v) = before ≡ Some c

abbrev StaysBy : Option Composition → Outcome → Type 0
StaysBy before Passed = ⊤
StaysBy before Filled = ⊤
StaysBy before (Went stage) = StaysIn before stage
StaysBy before (Converted c v) = before ≡ Some c
StaysBy before (Committed text stage) = StaysIn before stage

stays-here : (stage : Stage) → StaysIn (composition_in stage) stage
stays-here P = tt
stays-here (C c) = tt
stays-here (V c v) = refl

stays-settled : (before : Option Composition) (stage : Stage) → StaysIn before stage → StaysIn before (settled stage)
stays-settled before P stays = tt
stays-settled before (C c) stays = by_test (length (preedit c) == 0)
  where
    by_test : (b : Bool) → StaysIn before (if b then P else C c)
    by_test true = tt
    by_test false = tt
stays-settled before (V c v) stays = stays

stays-after : (s : Session) (o : Outcome) → StaysBy (composition_in s.stage) o → StaysIn (composition_in s.stage) (after s o).session.stage
stays-after s Passed stays = stays-here s.stage
stays-after s Filled stays = stays-here s.stage
stays-after s (Went stage) stays = stays-settled (composition_in s.stage) stage stays
stays-after s (Converted c v) stays = stays
stays-after s (Committed text stage) stays = stays-settled (composition_in s.stage) stage stays

either : (before : Option Composition) (b : Bool) (one other : Outcome) → StaysBy before one → StaysBy before other → StaysBy before (if b then one else other)
either before true one other here there = here
either before false one other here there = there

stays-begun : (before : Option Composition) (taken : Option Pinned) (letter : ℕ) → StaysIn before (begun taken letter)
stays-begun before None letter = tt
stays-begun before (Some pinned) letter = tt

stays-reconverted : (c : Composition) (v : Choice) (bounds : Option (List ℕ)) → StaysBy (Some c) (reconverted c v bounds)
stays-reconverted c v None = tt
stays-reconverted c v (Some bounds) = refl

stays-pressed : (stage : Stage) (taken : Option Pinned) (act : Option Action) → StaysBy (composition_in stage) (pressed stage taken act)
stays-pressed P taken (Some (action.Insert letter)) = stays-begun None taken letter
stays-pressed P taken _ = tt
stays-pressed (C c) taken (Some (action.Insert letter)) =
    either (Some c) (nat_le MOST_SHOWN (length (preedit c))) Filled (Went (with_text c (inserted c.text letter))) tt tt
stays-pressed (C c) taken (Some action.Convert) =
    either (Some c) (can_convert c) (Converted c (first_choice (conversion_of c []))) Passed refl tt
stays-pressed (C c) taken _ = tt
stays-pressed (V c v) taken (Some action.Left) = refl
stays-pressed (V c v) taken (Some action.Right) = refl
stays-pressed (V c v) taken (Some action.Home) = refl
stays-pressed (V c v) taken (Some action.End) = refl
stays-pressed (V c v) taken (Some action.Next) = refl
stays-pressed (V c v) taken (Some action.Previous) = refl
stays-pressed (V c v) taken (Some action.Widen) =
    stays-reconverted c v (resized (parts_of v) v.focus (pos 1) (length (reading c)))
stays-pressed (V c v) taken (Some action.Narrow) =
    stays-reconverted c v (resized (parts_of v) v.focus (neg_ℤ (pos 1)) (length (reading c)))
stays-pressed (V c v) taken (Some (action.CommitThenInsert letter)) = stays-begun (Some c) taken letter
stays-pressed (V c v) taken _ = tt

stays-suggestion : (before : Option Composition) (found : Option Pair) → StaysBy before (took_suggestion found)
stays-suggestion before None = tt
stays-suggestion before (Some pair) = tt

stays-selected : (stage : Stage) (number : ℕ) → StaysBy (composition_in stage) (selected stage number)
stays-selected P number = tt
stays-selected (C c) number = stays-suggestion (Some c) (suggestion_at c number)
stays-selected (V c v) number =
    either (Some c) (nat_lt 0 number && nat_le number (count_in_focus v)) (Went (V c (with_chosen v (number - 1)))) Passed refl tt

stays-compared : (s : Session) (wanted found : List ℕ) → StaysIn (composition_in s.stage) (compared s wanted found).session.stage
stays-compared s wanted found = by_test (is_text wanted found)
  where
    by_test : (b : Bool) → StaysIn (composition_in s.stage) (if b then met s else differs s found).session.stage
    by_test true = stays-here s.stage
    by_test false = stays-here s.stage

stays-step : (s : Session) (c : Command) (taken : Option Pinned) → StaysIn (composition_in s.stage) (step s c taken).session.stage
unfolding step
stays-step s (command.Key key) taken =
    stays-after s (pressed s.stage taken (action_in (mode_of s.stage) key)) (stays-pressed s.stage taken (action_in (mode_of s.stage) key))
stays-step s (command.Select number) taken = stays-after s (selected s.stage number) (stays-selected s.stage number)
stays-step s command.Reset taken = tt
stays-step s (command.Await number) taken = stays-here s.stage
stays-step s (command.ExpectPreedit text) taken = stays-compared s text (shown s.stage)
stays-step s (command.ExpectResult text) taken = stays-compared s text s.last

from_stage : (before : Option Composition) (stage : Stage) (c : Composition) (v : Choice) → StaysIn before stage → stage ≡ V c v → before ≡ Some c
from_stage before stage c v stays is = subst (StaysIn before) is stays

pub composition-stays : CompositionStays
composition-stays s command taken c v is =
    from_stage (composition_in s.stage) (step s command taken).session.stage c v (stays-step s command taken) is

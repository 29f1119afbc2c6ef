-- What becomes of the data of a session.
use Rattle.std.proofs.Common.{◌≡◌, refl, inl, inr, ◌⊎◌, ℕ, Bool, true, false, List, Option, Some, None, if◌then◌else◌, length, ◌==◌}
use Rattle.std.specs.Prelude.{⊤, pos, neg_ℤ, [], ◌&&◌, ◌-◌, nat_le, nat_lt}
use Rattle.mz_base.specs.Data.{is_text}
use Rattle.mz_base.specs.declared.lattice.Pair.{Pair}
use Rattle.composer.specs.Composing.{inserted}
use Rattle.composer.specs.declared.composer.TheConstants.{MOST_SHOWN}
use Rattle.conversion_meaning.specs.Segments.{resized}
use Rattle.keys.specs.Bindings.{action_in}
use Rattle.keys.specs.declared.action.Action.{Action}
use Rattle.keys.specs.declared.action.Action.TheVariants as action
use Rattle.keys.specs.declared.command.Command.TheVariants as command
use Rattle.session_meaning.specs.Laws.{DataStay, pinned_in}
use Rattle.session_meaning.specs.Outcomes.{Outcome, Committed, Converted, Filled, Passed, Went, begun, can_convert, conversion_of, count_in_focus, first_choice, parts_of, reconverted, suggestion_at, took_suggestion, with_chosen, with_text}
use Rattle.session_meaning.specs.Stages.{Choice, Composition, Pinned, Session, Stage, C, P, V, mode_of, preedit, reading, shown}
use Rattle.session_meaning.specs.Steps.{after, compared, differs, met, pressed, selected, settled, step}

-- the data of a stage are those before, or those that were taken, or there are none
abbrev AreKept : Option Pinned → Option Pinned → Stage → Type 0
AreKept before taken stage =
    (pinned_in stage ≡ before) ⊎ ((pinned_in stage ≡ taken) ⊎ (pinned_in stage ≡ None))

-- so it is of what a command comes to
abbrev KeepsBy : Option Pinned → Option Pinned → Outcome → Type 0
KeepsBy before taken Passed = ⊤
KeepsBy before taken Filled = ⊤
KeepsBy before taken (Went stage) = AreKept before taken stage
KeepsBy before taken (Converted c v) = AreKept before taken (V c v)
KeepsBy before taken (Committed text stage) = AreKept before taken stage

module _ (before taken : Option Pinned) where
  kept-either : (b : Bool) (one other : Stage) → AreKept before taken one → AreKept before taken other → AreKept before taken (if b then one else other)
  kept-either true one other here there = here
  kept-either false one other here there = there

  kept-settled : (stage : Stage) → AreKept before taken stage → AreKept before taken (settled stage)
  kept-settled P are = are
  kept-settled (C c) are = kept-either (length (preedit c) == 0) P (C c) (inr (inr refl)) are
  kept-settled (V c v) are = are

  keeps-either : (b : Bool) (one other : Outcome) → KeepsBy before taken one → KeepsBy before taken other → KeepsBy before taken (if b then one else other)
  keeps-either true one other here there = here
  keeps-either false one other here there = there

kept-after : (s : Session) (taken : Option Pinned) (o : Outcome) → KeepsBy (pinned_in s.stage) taken o → AreKept (pinned_in s.stage) taken (after s o).session.stage
kept-after s taken Passed keeps = inl refl
kept-after s taken Filled keeps = inl refl
kept-after s taken (Went stage) keeps = kept-settled (pinned_in s.stage) taken stage keeps
kept-after s taken (Converted c v) keeps = keeps
kept-after s taken (Committed text stage) keeps = kept-settled (pinned_in s.stage) taken stage keeps

kept-begun : (before taken : Option Pinned) (letter : ℕ) → AreKept before taken (begun taken letter)
kept-begun before None letter = inr (inr refl)
kept-begun before (Some pinned) letter = inr (inl refl)

keeps-reconverted : (c : Composition) (v : Choice) (taken : Option Pinned) (bounds : Option (List ℕ)) → KeepsBy (Some c.pinned) taken (reconverted c v bounds)
keeps-reconverted c v taken None = tt
keeps-reconverted c v taken (Some bounds) = inl refl

keeps-pressed : (stage : Stage) (taken : Option Pinned) (act : Option Action) → KeepsBy (pinned_in stage) taken (pressed stage taken act)
keeps-pressed P taken (Some (action.Insert letter)) = kept-begun None taken letter
keeps-pressed P taken _ = tt
keeps-pressed (C c) taken (Some (action.Insert letter)) = keeps-either (Some c.pinned) taken (nat_le MOST_SHOWN (length (preedit c))) Filled (Went (with_text c (inserted c.text letter))) tt (inl refl)
keeps-pressed (C c) taken (Some action.Convert) = keeps-either (Some c.pinned) taken (can_convert c) (Converted c (first_choice (conversion_of c []))) Passed (inl refl) tt
keeps-pressed (C c) taken (Some action.Commit) = inr (inr refl)
keeps-pressed (C c) taken (Some action.Cancel) = inr (inr refl)
keeps-pressed (C c) taken (Some action.Backspace) = inl refl
keeps-pressed (C c) taken (Some action.Delete) = inl refl
keeps-pressed (C c) taken (Some action.Left) = inl refl
keeps-pressed (C c) taken (Some action.Right) = inl refl
keeps-pressed (C c) taken (Some action.Home) = inl refl
keeps-pressed (C c) taken (Some action.End) = inl refl
keeps-pressed (C c) taken _ = tt
keeps-pressed (V c v) taken (Some action.Commit) = inr (inr refl)
keeps-pressed (V c v) taken (Some action.Cancel) = inl refl
keeps-pressed (V c v) taken (Some action.Left) = inl refl
keeps-pressed (V c v) taken (Some action.Right) = inl refl
keeps-pressed (V c v) taken (Some action.Home) = inl refl
keeps-pressed (V c v) taken (Some action.End) = inl refl
keeps-pressed (V c v) taken (Some action.Next) = inl refl
keeps-pressed (V c v) taken (Some action.Previous) = inl refl
keeps-pressed (V c v) taken (Some action.Widen) = keeps-reconverted c v taken (resized (parts_of v) v.focus (pos 1) (length (reading c)))
keeps-pressed (V c v) taken (Some action.Narrow) = keeps-reconverted c v taken (resized (parts_of v) v.focus (neg_ℤ (pos 1)) (length (reading c)))
keeps-pressed (V c v) taken (Some (action.CommitThenInsert letter)) = kept-begun (Some c.pinned) taken letter
keeps-pressed (V c v) taken _ = tt

keeps-suggestion : (before taken : Option Pinned) (found : Option Pair) → KeepsBy before taken (took_suggestion found)
keeps-suggestion before taken None = tt
keeps-suggestion before taken (Some pair) = inr (inr refl)

keeps-selected : (stage : Stage) (taken : Option Pinned) (number : ℕ) → KeepsBy (pinned_in stage) taken (selected stage number)
keeps-selected P taken number = tt
keeps-selected (C c) taken number = keeps-suggestion (Some c.pinned) taken (suggestion_at c number)
keeps-selected (V c v) taken number =
    keeps-either (Some c.pinned) taken (nat_lt 0 number && nat_le number (count_in_focus v)) (Went (V c (with_chosen v (number - 1)))) Passed (inl refl) tt

kept-compared : (s : Session) (taken : Option Pinned) (wanted found : List ℕ) → AreKept (pinned_in s.stage) taken (compared s wanted found).session.stage
kept-compared s taken wanted found = by_test (is_text wanted found)
  where
    by_test : (b : Bool) → AreKept (pinned_in s.stage) taken (if b then met s else differs s found).session.stage
    by_test true = inl refl
    by_test false = inl refl

pub kept-step : DataStay
unfolding step
kept-step s (command.Key key) taken =
    kept-after s taken (pressed s.stage taken (action_in (mode_of s.stage) key)) (keeps-pressed s.stage taken (action_in (mode_of s.stage) key))
kept-step s (command.Select number) taken = kept-after s taken (selected s.stage number) (keeps-selected s.stage taken number)
kept-step s command.Reset taken = kept-after s taken (Went P) (inr (inr refl))
kept-step s (command.Await number) taken = inl refl
kept-step s (command.ExpectPreedit text) taken = kept-compared s taken text (shown s.stage)
kept-step s (command.ExpectResult text) taken = kept-compared s taken text s.last

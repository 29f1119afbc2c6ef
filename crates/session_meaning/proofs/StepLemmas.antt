-- What holds of each outcome, and of each command.
use Rattle.std.proofs.Common.{◌≡◌, ◌≢◌, refl, sym, ap, ◌∙◌, inl, inr, ◌⊎◌, ℕ, Bool, true, false, List, [], ◌∷◌, ◌++◌, map, Option, Some, None, if◌then◌else◌, append-nil}
use Rattle.std.specs.List.{flat_map}
use Rattle.std.proofs.lemmas.Bool.{false≢true}
use Rattle.mz_base.specs.Data.{is_text}
use Rattle.mz_base.specs.declared.conversion.Segment.{Segment}
use Rattle.mz_base.specs.declared.lattice.Pair.{Pair}
use Rattle.keys.specs.Bindings.{action_in}
use Rattle.keys.specs.declared.action.Action.{Action}
use Rattle.keys.specs.declared.action.Action.TheVariants as action
use Rattle.keys.specs.declared.command.Command.TheVariants as command
use Rattle.session_meaning.specs.Laws.{LearnedIsResult, LineHasMode, LineHasVersion, QuietStays, ResultIsLast, TakesComeFirst, is_learned, is_quiet, is_taken}
use Rattle.session_meaning.specs.Outcomes.{Outcome, Committed, Converted, Filled, Passed, Went, suggestion_at, took_suggestion}
use Rattle.session_meaning.specs.Stages.{Choice, Composition, Pinned, Session, Stage, C, P, V, chosen_pairs, chosen_text, mode_of, picks, shown, value_at, version_of}
use Rattle.session_meaning.specs.Steps.{Stepped, after, differs, learned, learned_by_action, learned_by_selection, met, need_of_action, need_of_selection, needs, of_suggestion, need_of_suggestion, pressed, selected, step}
use Rattle.session_meaning.specs.declared.need.Need.TheVariants as need

-- ---- Of each outcome

quiet-after : (s : Session) (o : Outcome) → is_quiet (after s o).line.word ≡ true → (after s o).session ≡ record s { fresh = false }
quiet-after s Passed is = refl
quiet-after s Filled is = refl
quiet-after s (Went stage) is = absurd (false≢true is)
quiet-after s (Converted c v) is = absurd (false≢true is)
quiet-after s (Committed text stage) is = absurd (false≢true is)

mode-after : (s : Session) (o : Outcome) → (after s o).line.mode ≡ mode_of (after s o).session.stage
mode-after s Passed = refl
mode-after s Filled = refl
mode-after s (Went stage) = refl
mode-after s (Converted c v) = refl
mode-after s (Committed text stage) = refl

version-after : (s : Session) (o : Outcome) → (after s o).line.version ≡ version_of (after s o).session.stage
version-after s Passed = refl
version-after s Filled = refl
version-after s (Went stage) = refl
version-after s (Converted c v) = refl
version-after s (Committed text stage) = refl

last-after : (s : Session) (o : Outcome) → (after s o).line.result ≢ [] → (after s o).session.last ≡ (after s o).line.result
last-after s Passed some = absurd (some refl)
last-after s Filled some = absurd (some refl)
last-after s (Went stage) some = absurd (some refl)
last-after s (Converted c v) some = absurd (some refl)
last-after s (Committed text stage) some = refl

-- ---- Of a comparison

either : (Holds : Stepped → Type 0) (b : Bool) (x y : Stepped) → Holds x → Holds y → Holds (if b then x else y)
either Holds true x y one other = one
either Holds false x y one other = other

-- ---- Of each command

pub quiet-step : QuietStays
unfolding step
quiet-step s (command.Key key) taken is = quiet-after s (pressed s.stage taken (action_in (mode_of s.stage) key)) is
quiet-step s (command.Select number) taken is = quiet-after s (selected s.stage number) is
quiet-step s command.Reset taken is = quiet-after s (Went P) is
quiet-step s (command.Await number) taken is = refl
quiet-step s (command.ExpectPreedit text) taken is =
    either (λ x. x.session ≡ record s { fresh = false }) (is_text text (shown s.stage)) (met s) (differs s (shown s.stage)) refl refl
quiet-step s (command.ExpectResult text) taken is =
    either (λ x. x.session ≡ record s { fresh = false }) (is_text text s.last) (met s) (differs s s.last) refl refl

pub mode-step : LineHasMode
unfolding step
mode-step s (command.Key key) taken = mode-after s (pressed s.stage taken (action_in (mode_of s.stage) key))
mode-step s (command.Select number) taken = mode-after s (selected s.stage number)
mode-step s command.Reset taken = mode-after s (Went P)
mode-step s (command.Await number) taken = refl
mode-step s (command.ExpectPreedit text) taken =
    either (λ x. x.line.mode ≡ mode_of x.session.stage) (is_text text (shown s.stage)) (met s) (differs s (shown s.stage)) refl refl
mode-step s (command.ExpectResult text) taken =
    either (λ x. x.line.mode ≡ mode_of x.session.stage) (is_text text s.last) (met s) (differs s s.last) refl refl

pub version-step : LineHasVersion
unfolding step
version-step s (command.Key key) taken = version-after s (pressed s.stage taken (action_in (mode_of s.stage) key))
version-step s (command.Select number) taken = version-after s (selected s.stage number)
version-step s command.Reset taken = version-after s (Went P)
version-step s (command.Await number) taken = refl
version-step s (command.ExpectPreedit text) taken =
    either (λ x. x.line.version ≡ version_of x.session.stage) (is_text text (shown s.stage)) (met s) (differs s (shown s.stage)) refl refl
version-step s (command.ExpectResult text) taken =
    either (λ x. x.line.version ≡ version_of x.session.stage) (is_text text s.last) (met s) (differs s s.last) refl refl

abbrev IsLast : Stepped → Type 0
IsLast x = x.line.result ≢ [] → x.session.last ≡ x.line.result

pub last-step : ResultIsLast
unfolding step
last-step s (command.Key key) taken = last-after s (pressed s.stage taken (action_in (mode_of s.stage) key))
last-step s (command.Select number) taken = last-after s (selected s.stage number)
last-step s command.Reset taken = last-after s (Went P)
last-step s (command.Await number) taken = last-after s Passed
last-step s (command.ExpectPreedit text) taken =
    either IsLast (is_text text (shown s.stage)) (met s) (differs s (shown s.stage)) (λ some. absurd (some refl)) (λ some. absurd (some refl))
last-step s (command.ExpectResult text) taken =
    either IsLast (is_text text s.last) (met s) (differs s s.last) (λ some. absurd (some refl)) (λ some. absurd (some refl))

-- ---- What is learned

values-joined : (reading : List ℕ) (parts : List (Segment × ℕ)) (pair_of : Segment × ℕ → Pair) → ((pick : Segment × ℕ) → (pair_of pick).value ≡ value_at pick.0 pick.1) → flat_map (λ value. value) (map (λ (pick : Segment × ℕ). value_at pick.0 pick.1) parts) ≡ flat_map (λ (pair : Pair). pair.value) (map pair_of parts)
values-joined reading [] pair_of same = refl
values-joined reading (pick ∷ parts) pair_of same =
    ap (λ text. text ++ flat_map (λ value. value) (map (λ (pick : Segment × ℕ). value_at pick.0 pick.1) parts)) (sym (same pick))
    ∙ ap (λ rest. (pair_of pick).value ++ rest) (values-joined reading parts pair_of same)

pairs-joined : (c : Composition) (v : Choice) → chosen_text v ≡ flat_map (λ (pair : Pair). pair.value) (chosen_pairs c v)
pairs-joined c v = values-joined [] (picks v) _ (λ pick. refl)

learned-pressed : (s : Session) (taken : Option Pinned) (stage : Stage) (act : Option Action) → is_learned (need_of_action stage act) ≡ true → (after s (pressed stage taken act)).line.result ≡ flat_map (λ (pair : Pair). pair.value) (learned_by_action stage act)
learned-pressed s taken P (Some (action.Insert letter)) is = absurd (false≢true is)
learned-pressed s taken P _ is = absurd (false≢true is)
learned-pressed s taken (C c) _ is = absurd (false≢true is)
learned-pressed s taken (V c v) (Some action.Commit) is = pairs-joined c v
learned-pressed s taken (V c v) (Some (action.CommitThenInsert letter)) is = pairs-joined c v
learned-pressed s taken (V c v) _ is = absurd (false≢true is)

learned-suggestion : (s : Session) (found : Option Pair) → is_learned (need_of_suggestion found) ≡ true → (after s (took_suggestion found)).line.result ≡ flat_map (λ (pair : Pair). pair.value) (of_suggestion found)
learned-suggestion s None is = absurd (false≢true is)
learned-suggestion s (Some pair) is = sym (append-nil pair.value)

learned-selected : (s : Session) (stage : Stage) (number : ℕ) → is_learned (need_of_selection stage number) ≡ true → (after s (selected stage number)).line.result ≡ flat_map (λ (pair : Pair). pair.value) (learned_by_selection stage number)
learned-selected s P number is = absurd (false≢true is)
learned-selected s (C c) number is = learned-suggestion s (suggestion_at c number) is
learned-selected s (V c v) number is = absurd (false≢true is)

pub learned-step : LearnedIsResult
unfolding step needs learned
learned-step s (command.Key key) taken is = learned-pressed s taken s.stage (action_in (mode_of s.stage) key) is
learned-step s (command.Select number) taken is = learned-selected s s.stage number is
learned-step s command.Reset taken is = absurd (false≢true is)
learned-step s (command.Await number) taken is = absurd (false≢true is)
learned-step s (command.ExpectPreedit text) taken is = absurd (false≢true is)
learned-step s (command.ExpectResult text) taken is = absurd (false≢true is)

-- ---- When data are taken

takes-pressed : (stage : Stage) (act : Option Action) → is_taken (need_of_action stage act) ≡ true → (stage ≡ P) ⊎ (need_of_action stage act ≡ need.LearnThenTake)
takes-pressed P act is = inl refl
takes-pressed (C c) _ is = absurd (false≢true is)
takes-pressed (V c v) (Some (action.CommitThenInsert letter)) is = inr refl
takes-pressed (V c v) _ is = absurd (false≢true is)

takes-suggestion : (found : Option Pair) → is_taken (need_of_suggestion found) ≡ true → ⊥
takes-suggestion None is = false≢true is
takes-suggestion (Some pair) is = false≢true is

takes-selected : (stage : Stage) (number : ℕ) → is_taken (need_of_selection stage number) ≡ true → (stage ≡ P) ⊎ (need_of_selection stage number ≡ need.LearnThenTake)
takes-selected P number is = inl refl
takes-selected (C c) number is = absurd (takes-suggestion (suggestion_at c number) is)
takes-selected (V c v) number is = absurd (false≢true is)

pub takes-step : TakesComeFirst
unfolding needs
takes-step s (command.Key key) is = takes-pressed s.stage (action_in (mode_of s.stage) key) is
takes-step s (command.Select number) is = takes-selected s.stage number is
takes-step s command.Reset is = absurd (false≢true is)
takes-step s (command.Await number) is = absurd (false≢true is)
takes-step s (command.ExpectPreedit text) is = absurd (false≢true is)
takes-step s (command.ExpectResult text) is = absurd (false≢true is)

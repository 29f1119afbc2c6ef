-- The data of one step, and the commands that take them.
use Rattle.std.proofs.Common.{◌≡◌, refl, ap, inl, inr, ◌⊎◌, ℕ, Bool, true, false, List, [], ◌∷◌, Option, Some, None, if◌then◌else◌, length, ◌==◌}
use Rattle.std.proofs.lemmas.Bool.{false≢true}
use Rattle.mz_base.specs.declared.lattice.Pair.{Pair}
use Rattle.mz_base.specs.declared.report.Mode.TheVariants as mode
use Rattle.composer.specs.Composing.{inserted}
use Rattle.keys.specs.Bindings.{action_in}
use Rattle.keys.specs.declared.command.Command.{Command}
use Rattle.keys.specs.declared.command.Command.TheVariants as command
use Rattle.keys.specs.declared.key.Key.{Key}
use Rattle.keys.specs.declared.key.Key.TheVariants as key
use Rattle.session_meaning.specs.Laws.{is_learned, is_taken, pinned_in}
use Rattle.session_meaning.specs.Outcomes.{begun, empty, suggestion_at}
use Rattle.session_meaning.specs.Stages.{Composition, Pinned, Session, Stage, C, P, V, mode_of, preedit}
use Rattle.session_meaning.specs.Steps.{after, need_of_action, need_of_selection, need_of_suggestion, needs, pressed, settled, step}
use Rattle.run_meaning.specs.Deeds.{awaited_by, need_of}
use Rattle.std.proofs.lemmas.Option.{none-some}

-- ---- What a step with a take ends with

-- just these data, or none
abbrev pub IsNew : Option Pinned → Stage → Type 0
IsNew taken stage = (pinned_in stage ≡ taken) ⊎ (pinned_in stage ≡ None)

new-settled : (taken : Option Pinned) (letter : ℕ) → IsNew taken (settled (begun taken letter))
new-settled None letter = inr refl
new-settled (Some pinned) letter = by_test (length (preedit composition) == 0)
  where
    composition : Composition
    composition = record { pinned = pinned; text = inserted empty letter }

    by_test : (b : Bool) → IsNew (Some pinned) (if b then P else C composition)
    by_test true = inr refl
    by_test false = inl refl

new-pressed : (s : Session) (taken : Option Pinned) (stage : Stage) (k : Key) → is_taken (need_of_action stage (action_in (mode_of stage) k)) ≡ true → IsNew taken (after s (pressed stage taken (action_in (mode_of stage) k))).session.stage
new-pressed s taken P (key.Char letter) is = new-settled taken letter
new-pressed s taken P _ is = absurd (false≢true is)
new-pressed s taken (C c) k is = absurd (false≢true is)
new-pressed s taken (V c v) (key.Char letter) is = new-settled taken letter
new-pressed s taken (V c v) _ is = absurd (false≢true is)

-- a number takes none
suggestion-takes : (found : Option Pair) → is_taken (need_of_suggestion found) ≡ true → ⊥
suggestion-takes None is = false≢true is
suggestion-takes (Some pair) is = false≢true is

selection-takes : (stage : Stage) (number : ℕ) → is_taken (need_of_selection stage number) ≡ true → ⊥
selection-takes P number is = false≢true is
selection-takes (C c) number is = suggestion-takes (suggestion_at c number) is
selection-takes (V c v) number is = false≢true is

pub new-step : (s : Session) (c : Command) (taken : Option Pinned) → is_taken (needs s c) ≡ true → IsNew taken (step s c taken).session.stage
unfolding step needs
new-step s (command.Key k) taken is = new-pressed s taken s.stage k is
new-step s (command.Select number) taken is = absurd (selection-takes s.stage number is)
new-step s command.Reset taken is = absurd (false≢true is)
new-step s (command.Await number) taken is = absurd (false≢true is)
new-step s (command.ExpectPreedit text) taken is = absurd (false≢true is)
new-step s (command.ExpectResult text) taken is = absurd (false≢true is)

-- ---- Which commands take

-- a character does, in precomposition or with a commit
abbrev pub Begins : Stage → Bool → Type 0
Begins stage commits = (mode_of stage ≡ mode.P) ⊎ ((mode_of stage ≡ mode.V) × (commits ≡ true))

typed-key : (stage : Stage) (k : Key) → is_taken (need_of_action stage (action_in (mode_of stage) k)) ≡ true → (letter : ℕ) × (k ≡ key.Char letter) × Begins stage (is_learned (need_of_action stage (action_in (mode_of stage) k)))
typed-key P (key.Char letter) is = (letter, refl, inl refl)
typed-key P _ is = absurd (false≢true is)
typed-key (C c) k is = absurd (false≢true is)
typed-key (V c v) (key.Char letter) is = (letter, refl, inr (refl, refl))
typed-key (V c v) _ is = absurd (false≢true is)

pub typed-next : (s : Session) (rest : List Command) → is_taken (need_of s rest) ≡ true → (letter : ℕ) × (more : List Command) × (rest ≡ command.Key (key.Char letter) ∷ more) × Begins s.stage (is_learned (need_of s rest))
unfolding needs
typed-next s [] is = absurd (false≢true is)
typed-next s (command.Key k ∷ more) is =
    let found = typed-key s.stage k is in
    (found.0, more, ap (λ k. command.Key k ∷ more) found.1, found.2)
typed-next s (command.Select number ∷ more) is = absurd (selection-takes s.stage number is)
typed-next s (command.Reset ∷ more) is = absurd (false≢true is)
typed-next s (command.Await number ∷ more) is = absurd (false≢true is)
typed-next s (command.ExpectPreedit text ∷ more) is = absurd (false≢true is)
typed-next s (command.ExpectResult text ∷ more) is = absurd (false≢true is)

-- a wait does not
pub waits-take-none : (s : Session) (rest : List Command) (wanted : ℕ) → awaited_by rest ≡ Some wanted → is_taken (need_of s rest) ≡ true → ⊥
unfolding needs
waits-take-none s [] wanted waits is = false≢true is
waits-take-none s (command.Await number ∷ more) wanted waits is = false≢true is
waits-take-none s (command.Key k ∷ more) wanted waits is = none-some wanted waits
waits-take-none s (command.Select number ∷ more) wanted waits is = none-some wanted waits
waits-take-none s (command.Reset ∷ more) wanted waits is = none-some wanted waits
waits-take-none s (command.ExpectPreedit text ∷ more) wanted waits is = none-some wanted waits
waits-take-none s (command.ExpectResult text ∷ more) wanted waits is = none-some wanted waits

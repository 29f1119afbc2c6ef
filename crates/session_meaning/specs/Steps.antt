-- One command of a session: docs/FORMATS.md, "Session".
use Rattle.std.specs.Prelude.{ℕ, ◌==◌, Bool, true, false, List, [], ◌∷◌, Option, Some, None, if◌then◌else◌, length}
use Rattle.mz_base.specs.Data.{is_text}
use Rattle.mz_base.specs.declared.conversion.Conversion.{Conversion}
use Rattle.mz_base.specs.declared.lattice.Pair.{Pair}
use Rattle.mz_base.specs.declared.report.Line.{Line}
use Rattle.mz_base.specs.declared.report.Word.TheVariants as word
use Rattle.keys.specs.Bindings.{action_in}
use Rattle.keys.specs.declared.action.Action.{Action}
use Rattle.keys.specs.declared.action.Action.TheVariants as action
use Rattle.keys.specs.declared.command.Command.{Command}
use Rattle.keys.specs.declared.command.Command.TheVariants as command
use Rattle.session_meaning.specs.Lines.{line_of, line_with}
use Rattle.session_meaning.specs.Outcomes.{Outcome, Committed, Converted, Filled, Passed, Went, in_composition, in_conversion, in_precomposition, suggestion_at, took_candidate, took_suggestion}
use Rattle.session_meaning.specs.Stages.{Pinned, Session, Stage, C, P, V, chosen_pairs, mode_of, preedit, reading, shown}
use Rattle.session_meaning.specs.declared.need.Need.{Need}
use Rattle.session_meaning.specs.declared.need.Need.TheVariants as need

-- ---- What a command comes to

-- an action, by the mode
abbrev pub acted : Stage → Option Pinned → Action → Outcome
acted P taken act = in_precomposition taken act
acted (C c) taken act = in_composition c act
acted (V c v) taken act = in_conversion c v taken act

-- a key that has no row in this mode has no meaning
abbrev pub pressed : Stage → Option Pinned → Option Action → Outcome
pressed stage taken None = Passed
pressed stage taken (Some act) = acted stage taken act

abbrev pub selected : Stage → ℕ → Outcome
selected P number = Passed
selected (C c) number = took_suggestion (suggestion_at c number)
selected (V c v) number = took_candidate c v number

-- ---- The line and the session after it

-- a session, and the line of the command that led to it
pub record Stepped : Type 0 where
  pub session : Session
  pub line : Line

-- a composition that shows nothing is over
abbrev pub settled : Stage → Stage
settled P = P
settled (C c) = if length (preedit c) == 0 then P else C c
settled (V c v) = V c v

-- the session goes on with a stage, and a line shows it
abbrev pub gone : Session → Stage → Bool → Stepped
gone session stage fresh =
    record { session = record { stage = stage; last = session.last; fresh = fresh }; line = line_of word.Done stage [] }

-- nothing changes, and no conversion was made
abbrev pub stayed : Session → Line → Stepped
stayed session line = record { session = record session { fresh = false }; line = line }

abbrev pub after : Session → Outcome → Stepped
after session Passed = stayed session (line_of word.Pass session.stage [])
after session Filled = stayed session (line_of word.Full session.stage [])
after session (Went stage) = gone session (settled stage) false
after session (Converted c v) = gone session (V c v) true
after session (Committed text stage) =
    record { session = record { stage = settled stage; last = text; fresh = false }; line = line_of word.Done (settled stage) text }

-- what was expected was found, or another text
abbrev pub met : Session → Stepped
met session = stayed session (line_with word.Met session.stage [])

abbrev pub differs : Session → List ℕ → Stepped
differs session found = stayed session (line_with word.Differs session.stage (found ∷ []))

-- a text is compared with the one that was expected
abbrev pub compared : Session → List ℕ → List ℕ → Stepped
compared session wanted found = if is_text wanted found then met session else differs session found

-- One command, with the data that it takes, where its need says so. A wait is no step of a session.
unfoldable pub step : Session → Command → Option Pinned → Stepped
step session (command.Key key) taken = after session (pressed session.stage taken (action_in (mode_of session.stage) key))
step session (command.Select number) taken = after session (selected session.stage number)
step session command.Reset taken = after session (Went P)
step session (command.Await number) taken = after session Passed
step session (command.ExpectPreedit text) taken = compared session text (shown session.stage)
step session (command.ExpectResult text) taken = compared session text session.last

-- ---- What a command needs

-- a character takes data, after it committed what is converted; a commit of what was chosen is learned
abbrev pub need_of_action : Stage → Option Action → Need
need_of_action P (Some (action.Insert letter)) = need.Take
need_of_action (V c v) (Some (action.CommitThenInsert letter)) = need.LearnThenTake
need_of_action (V c v) (Some action.Commit) = need.Learn
need_of_action stage act = need.Nothing

abbrev pub need_of_suggestion : Option Pair → Need
need_of_suggestion None = need.Nothing
need_of_suggestion (Some pair) = need.Learn

abbrev pub need_of_selection : Stage → ℕ → Need
need_of_selection (C c) number = need_of_suggestion (suggestion_at c number)
need_of_selection stage number = need.Nothing

unfoldable pub needs : Session → Command → Need
needs session (command.Key key) = need_of_action session.stage (action_in (mode_of session.stage) key)
needs session (command.Select number) = need_of_selection session.stage number
needs session command = need.Nothing

-- ---- What a command learns

abbrev pub of_suggestion : Option Pair → List Pair
of_suggestion None = []
of_suggestion (Some pair) = pair ∷ []

abbrev pub learned_by_action : Stage → Option Action → List Pair
learned_by_action (V c v) (Some (action.CommitThenInsert letter)) = chosen_pairs c v
learned_by_action (V c v) (Some action.Commit) = chosen_pairs c v
learned_by_action stage act = []

abbrev pub learned_by_selection : Stage → ℕ → List Pair
learned_by_selection (C c) number = of_suggestion (suggestion_at c number)
learned_by_selection stage number = []

unfoldable pub learned : Session → Command → List Pair
learned session (command.Key key) = learned_by_action session.stage (action_in (mode_of session.stage) key)
learned session (command.Select number) = learned_by_selection session.stage number
learned session command = []

-- ---- What a command converted

abbrev pub conversion_in : Stage → Option (List ℕ × Conversion)
conversion_in (V c v) = Some (reading c, v.conversion)
conversion_in stage = None

-- the key and the conversion that the last command made
abbrev pub converted_of : Session → Option (List ℕ × Conversion)
converted_of session = if session.fresh then conversion_in session.stage else None

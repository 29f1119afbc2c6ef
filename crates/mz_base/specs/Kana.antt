-- Romaji rules, and the kana that a run of typed characters makes: docs/FORMATS.md, "Kana".
use Rattle.std.specs.Prelude.{◌≡◌, ◌≢◌, ⊤, ℕ, ◌<◌, Bool, ◌&&◌, ◌||◌, List, [], ◌∷◌, ◌++◌, Option, Some, None, if◌then◌else◌, ◌==◌, nat_eq, nat_lt, length, take, drop, zero, suc}
use Rattle.std.specs.List.{list_any, starts_with, AllByRecursion}
use Rattle.mz_base.specs.declared.romaji.Rule.{Rule}
use Rattle.mz_base.specs.declared.romaji.RuleView.{RuleView}

-- a rule's input is a prefix of the text
abbrev pub fits : List ℕ → Rule → Bool
fits text rule = starts_with nat_eq text rule.input

-- the one with the longer input
abbrev pub longer : Rule → Option Rule → Option Rule
longer rule None = Some rule
longer rule (Some other) = if nat_lt (length rule.input) (length other.input) then Some other else Some rule

-- the rule with the longest input that is a prefix of the text
abbrev pub longest : List Rule → List ℕ → Option Rule
longest [] text = None
longest (rule ∷ rules) text = if fits text rule then longer rule (longest rules text) else longest rules text

-- the text is a proper prefix of the rule's input
abbrev pub opens : List ℕ → Rule → Bool
opens text rule = starts_with nat_eq rule.input text && nat_lt (length text) (length rule.input)

-- the text is a proper prefix of a rule's input
abbrev pub is_open : List Rule → List ℕ → Bool
is_open rules text = list_any (opens text) rules

-- what is shown of a run, and what is still pending
pub record Shown : Type 0 where
  pub output : List ℕ
  pub pending : List ℕ

-- a turn takes the longest rule that fits, or passes one character: its output, and the text that it goes on with
abbrev pub turn : Option Rule → List ℕ → Shown
turn (Some rule) text = record { output = rule.output; pending = rule.pending ++ drop (length rule.input) text }
turn None text = record { output = take 1 text; pending = drop 1 text }

-- an output before what is shown of the rest
abbrev pub after_output : List ℕ → Shown → Shown
after_output output shown = record { output = output ++ shown.output; pending = shown.pending }

-- nothing is typed, or more may come
abbrev pub waits : List Rule → List ℕ → Bool
waits rules text = length text == 0 || is_open rules text

-- kana in at most so many turns
abbrev pub kana_within : ℕ → List Rule → List ℕ → Shown
kana_within zero rules text = record { output = []; pending = text }
kana_within (suc turns) rules text =
    if waits rules text then record { output = []; pending = text } else (
    let step = turn (longest rules text) text in
    after_output step.output (kana_within turns rules step.pending)
    )

-- The kana of a run: its output, and its pending text. Each turn shortens the text, so its length is turns enough.
unfoldable pub kana : List Rule → List ℕ → Shown
kana rules text = kana_within (length text) rules text

-- the finished text in at most so many turns
abbrev pub finish_within : ℕ → List Rule → List ℕ → List ℕ
finish_within zero rules text = []
finish_within (suc turns) rules text =
    if length text == 0 then [] else (
    let step = turn (longest rules text) text in
    step.output ++ finish_within turns rules step.pending
    )

-- the kana of a run of which no more comes
unfoldable pub finish : List Rule → List ℕ → List ℕ
finish rules text = finish_within (length text) rules text

-- an input is not empty, and leaves less pending than it takes
pub record IsRule (rule : Rule) : Type 0 where
  pub typed : 0 < length rule.input
  pub shorter : length rule.pending < length rule.input

-- no two rules have one input
abbrev pub AreDistinct : List Rule → Type 0
AreDistinct [] = ⊤
AreDistinct (rule ∷ rules) = AllByRecursion (λ other. other.input ≢ rule.input) rules × AreDistinct rules

-- the rules of a table
pub record AreRules (rules : List Rule) : Type 0 where
  pub each : AllByRecursion IsRule rules
  pub distinct : AreDistinct rules

-- what a look-up lends is this rule
pub record IsView (view : RuleView) (rule : Rule) : Type 0 where
  pub length_is : view.length ≡ length rule.input
  pub output_is : view.output.now ≡ rule.output
  pub pending_is : view.pending.now ≡ rule.pending

-- the answer of a look-up is this one
abbrev pub Shows : Option RuleView → Option Rule → Type 0
Shows None wanted = wanted ≡ None
Shows (Some view) wanted = (rule : Rule) × (wanted ≡ Some rule) × IsView view rule

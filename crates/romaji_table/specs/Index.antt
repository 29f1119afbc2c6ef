-- The places of a table's rules, in the order of their inputs.
use Rattle.std.specs.Prelude.{◌≡◌, ◌≢◌, ℕ, ◌<◌, ◌≤◌, Bool, true, List, [], Option, Some, None, length, nat_eq, slice_index_or}
use Rattle.std.specs.Cmp.Lexicographic.{slice_cmp}
use Rattle.std.specs.List.{All, Contains, list_any}
use Rattle.std.specs.List.Sorted.{IsSortedBy}
use Rattle.std.specs.Ordering.{is_lt, nat_cmp}
use Rattle.mz_base.specs.Kana.{AreRules}
use Rattle.mz_base.specs.declared.romaji.Rule.{Rule}

-- what is read past the last rule
abbrev pub no_rule : Rule
no_rule = record { input = []; output = []; pending = [] }

-- the input of the rule at a place
abbrev pub input_at : List Rule → ℕ → List ℕ
input_at rules place = (slice_index_or rules place no_rule).input

-- the input at one place comes before that at another, character by character
abbrev pub comes_before : List Rule → ℕ → ℕ → Bool
comes_before rules place other =
    is_lt (slice_cmp nat_cmp (input_at rules place) (input_at rules other))

-- the places of all rules, in the order of their inputs
pub record IsIndex (rules : List Rule) (places : List ℕ) : Type 0 where
  pub all : (place : ℕ) → place < length rules → list_any (nat_eq place) places ≡ true
  pub within : All (λ place. place < length rules) places
  pub sorted : IsSortedBy (comes_before rules) places

-- no input has more characters
abbrev pub AreWithin : ℕ → List Rule → Type 0
AreWithin most rules = All (λ rule. length rule.input ≤ most) rules

-- the rules of a table, their index, and the characters of the longest input
pub record IsTable (rules : List Rule) (places : List ℕ) (most : ℕ) : Type 0 where
  pub sound : AreRules rules
  pub index : IsIndex rules places
  pub within : AreWithin most rules

-- what a look-up of an input gives: a rule that has it, or none where no rule has it
abbrev pub Finds : List Rule → List ℕ → Option Rule → Type 0
Finds rules input None = All (λ rule. rule.input ≢ input) rules
Finds rules input (Some rule) = Contains rules rule × (rule.input ≡ input)

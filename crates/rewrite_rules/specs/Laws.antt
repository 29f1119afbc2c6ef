-- The laws of the rules: docs/CONVERSION.md, "Rules".
use Rattle.std.specs.Prelude.{◌≡◌, ◌≢◌, ⊤, ◌⊎◌, ℕ, false, List, [], ◌∷◌, ◌++◌, None, All, AllPairs}
use Rattle.std.specs.List.{list_any}
use Rattle.mz_base.specs.declared.lattice.Candidate.{Candidate}
use Rattle.conversion_meaning.specs.Rules.{Asked, is_value, rewritten}

-- no value comes twice
abbrev pub AreDistinct : List Candidate → Type 0
AreDistinct list = AllPairs (λ (candidate later : Candidate). candidate.value ≢ later.value) list

-- each has a value that stands nowhere before it
abbrev pub AreNew : List Candidate → List Candidate → Type 0
AreNew list [] = ⊤
AreNew list (candidate ∷ more) =
    (list_any (is_value candidate.value) list ≡ false) × AreNew (list ++ candidate ∷ []) more

-- the list, and then candidates without a cost and with new values
pub record IsGrown (list made : List Candidate) : Type 0 where
  pub more : List Candidate
  pub grown : made ≡ list ++ more
  pub free : All (λ (candidate : Candidate). candidate.cost ≡ None) more
  pub new : AreNew list more

-- rules 2 to 6 keep the list in front
abbrev pub RulesAdd : Type 0
RulesAdd =
    (rule : ℕ) (ask : Asked) (list : List Candidate) → rule ≢ 1 → IsGrown list (rewritten rule ask list)

-- one candidate goes before the others, which keep their order
pub record IsMoved (list made : List Candidate) : Type 0 where
  pub before : List Candidate
  pub candidate : Candidate
  pub after : List Candidate
  pub was : list ≡ before ++ candidate ∷ after
  pub moved : made ≡ candidate ∷ (before ++ after)

-- rule 1 leaves a list as it is, or moves one candidate to the front
abbrev pub ChosenIsMoved : Type 0
ChosenIsMoved =
    (ask : Asked) (list : List Candidate) → AreDistinct list → (rewritten 1 ask list ≡ list) ⊎ IsMoved list (rewritten 1 ask list)

-- distinct values stay distinct
abbrev pub DistinctStay : Type 0
DistinctStay =
    (rule : ℕ) (ask : Asked) (list : List Candidate) → AreDistinct list → AreDistinct (rewritten rule ask list)

-- a rule from 2 to 6 that is applied again changes nothing
abbrev pub AgainIsOnce : Type 0
AgainIsOnce =
    (rule : ℕ) (ask : Asked) (list : List Candidate) → rule ≢ 1 → rewritten rule ask (rewritten rule ask list) ≡ rewritten rule ask list

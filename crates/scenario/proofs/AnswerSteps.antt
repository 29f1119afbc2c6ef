-- What an answer that is a value has gone through.
use Rattle.std.proofs.Common.{◌≡◌, ℕ, Bool, true, false, cond, Option, Some, None, Result, Ok, Err, refl, inl, inr}
use Rattle.std.specs.Option.{option_map}
use Rattle.std.proofs.lemmas.Bool.{cases_Bool}
use Rattle.mz_base.specs.Answers.{◌>>=◌}
use Rattle.scenario.specs.Manifests.{or_bad}

-- a first value, and what it goes on with
pub after-Ok : {A B E : Type 0} (given : Result A E) (next : A → Result B E) (b : B) → (given >>= next) ≡ Ok b → (a : A) × (given ≡ Ok a) × (next a ≡ Ok b)
after-Ok (Ok a) next b is = (a, refl, is)
after-Ok (Err error) next b is = absurd cc

-- a line that says something
pub or_bad-Ok : {A : Type 0} (number : ℕ) (said : Option A) (a : A) → or_bad number said ≡ Ok a → said ≡ Some a
or_bad-Ok number None a is = absurd cc
or_bad-Ok number (Some said) a is = cc

-- a test that holds, before an answer
pub if-Ok : {A E : Type 0} (test : Bool) (a b : A) (error : E) → cond test (Ok a) (Err error) ≡ Ok b → (test ≡ true) × (a ≡ b)
if-Ok test a b error is =
    elim (cases_Bool test) [
      | inl holds ↦ let same : Ok a ≡ Ok b = rw holds at is in (holds, cc)
      | inr fails ↦ let never : Err error ≡ Ok b = rw fails at is in absurd cc
    ]

-- a test that holds, before a value
pub if-Some : {A : Type 0} (test : Bool) (found : Option A) (b : A) → cond test found None ≡ Some b → (test ≡ true) × (found ≡ Some b)
if-Some test found b is =
    elim (cases_Bool test) [
      | inl holds ↦ (holds, rw holds at is)
      | inr fails ↦ let never : None ≡ Some b = rw fails at is in absurd cc
    ]

-- a value, before it is changed
pub option_map-Some : {A B : Type 0} (change : A → B) (found : Option A) (b : B) → option_map change found ≡ Some b → (a : A) × (found ≡ Some a) × (change a ≡ b)
option_map-Some change None b is = absurd cc
option_map-Some change (Some a) b is = (a, refl, cc)

-- a test decides between two answers
pub if-made : {A E : Type 0} (P : A → Type 0) (test : Bool) (one other : Result A E) → ((more : A) → one ≡ Ok more → P more) → ((more : A) → other ≡ Ok more → P more) → (more : A) → cond test one other ≡ Ok more → P more
if-made P true one other first second more is = first more is
if-made P false one other first second more is = second more is

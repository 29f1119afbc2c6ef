-- Lines of too many fields.
use Rattle.std.proofs.Common.{◌≡◌, ◌==◌, ◌<◌, ◌∷◌, [], List, ℕ, None, length, refl, arith}
use Rattle.std.proofs.lemmas.List.Splits.{length-slice_split}
use Rattle.mz_base.specs.Lines.{fields_of}
use Rattle.scenario.specs.Scripts.{commands_in}

none_of_more : (word field : List ℕ) (fields : List (List ℕ)) → 0 < length fields → commands_in (word ∷ field ∷ fields) ≡ None
none_of_more word field [] some = absurd (omega (arith, some))
none_of_more word field (more ∷ fields) some = refl

-- a line of a word, a field and more has no command
pub none_of_three : (word field more : List ℕ) → commands_in (word ∷ field ∷ fields_of more) ≡ None
none_of_three word field more = none_of_more word field (fields_of more) (omega (arith, length-slice_split (λ b. b == 9) more))

-- Lines of too many fields.
use Rattle.std.proofs.Common.{◌≡◌, ◌==◌, ◌<◌, ◌∷◌, [], List, ℕ, None, length, refl, arith}
use Rattle.std.proofs.lemmas.List.Splits.{length-slice_split}
use Rattle.mz_base.specs.Lines.{fields_of}
use Rattle.schedule.specs.Events.{WhoIs, event_in}

none_of_more : (who : WhoIs) (word field last : List ℕ) (fields : List (List ℕ)) → 0 < length fields → event_in who (word ∷ field ∷ last ∷ fields) ≡ None
none_of_more who word field last [] some = absurd (omega (arith, some))
none_of_more who word field last (more ∷ fields) some = refl

-- a line of a word, two fields and more has no event
pub none_of_four : (who : WhoIs) (word field last more : List ℕ) → event_in who (word ∷ field ∷ last ∷ fields_of more) ≡ None
none_of_four who word field last more =
    none_of_more who word field last (fields_of more) (omega (arith, length-slice_split (λ b. b == 9) more))

-- One field more of a list of fields that is read.
use Rattle.std.proofs.Common.{◌≡◌, ℕ, ◌+◌, ◌<◌, ◌≤◌, List, [], ◌∷◌, ◌++◌, Option, Some, None, option_and_then, option_map, Bor, length, get_or, drop, refl, sym, ap, ◌∙◌, append_assoc, append-nil}
use Rattle.std.proofs.lemmas.List.{at_drop_more, at_drop_all}
use Rattle.mz_base.specs.Lines.{pointed}
use Rattle.cert_text.specs.Fields.{values_of}

-- values before those that are found
abbrev pub with_front : {A : Type 0} → List A → Option (List A) → Option (List A)
with_front before found = option_map (λ values. before ++ values) found

with_front-value : {A : Type 0} (before : List A) (value : A) (found : Option (List A)) → with_front before (option_map (λ values. value ∷ values) found) ≡ with_front (before ++ value ∷ []) found
with_front-value before value None = refl
with_front-value before value (Some values) = ap Some (sym (append_assoc before (value ∷ []) values))

module _ {A : Type 0} (value_of : List ℕ → Option A) (before : List A) (fields : List (Bor (List ℕ))) (i : ℕ) where
  -- the values, where the field at i has this one
  abbrev from_value : Option A → Option (List A)
  from_value given =
      with_front before (option_and_then (λ value. option_map (λ values. value ∷ values) (values_of value_of (pointed (drop (i + 1) fields)))) given)

  -- the field has a value
  pub values_of-read : (d : Bor (List ℕ)) (value : A) → i < length fields → value_of (get_or fields i d).now ≡ Some value → with_front before (values_of value_of (pointed (drop i fields))) ≡ with_front (before ++ value ∷ []) (values_of value_of (pointed (drop (i + 1) fields)))
  values_of-read d value inside given =
      at_drop_more (λ rest. with_front before (values_of value_of (pointed rest))) fields i d inside ∙ ap from_value given ∙ with_front-value before value (values_of value_of (pointed (drop (i + 1) fields)))

  -- the field has none
  pub values_of-none : (d : Bor (List ℕ)) → i < length fields → value_of (get_or fields i d).now ≡ None → with_front before (values_of value_of (pointed (drop i fields))) ≡ None
  values_of-none d inside given =
      at_drop_more (λ rest. with_front before (values_of value_of (pointed rest))) fields i d inside ∙ ap from_value given

  -- no field is left
  pub values_of-end : length fields ≤ i → with_front before (values_of value_of (pointed (drop i fields))) ≡ Some before
  values_of-end past =
      at_drop_all (λ rest. with_front before (values_of value_of (pointed rest))) fields i past ∙ ap Some (append-nil before)

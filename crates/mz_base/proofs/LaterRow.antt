-- A further row, where of repeated rows the later holds.
use Rattle.std.proofs.Common.{◌≡◌, Bool, true, false, not, ◌||◌, List, [], ◌∷◌, ◌++◌, filter, refl, ◌∙◌, ap, inl, inr}
use Rattle.std.specs.List.{list_any}
use Rattle.std.proofs.lemmas.Bool.{cases_Bool}
use Rattle.std.proofs.lemmas.List.Folds.{list_any-append}
use Rattle.mz_base.specs.Latest.{latest}

module _ {A : Type 0} (same : A → A → Bool) (row : A) where
  -- the rows that the further one does not repeat
  abbrev others : List A → List A
  others rows = filter (λ other. not (same other row)) rows

  repeated-later : (first : A) (rows : List A) → list_any (same first) rows ≡ true → latest same (rows ++ row ∷ []) ≡ others (latest same rows) ++ row ∷ [] → latest same (first ∷ (rows ++ row ∷ [])) ≡ others (latest same (first ∷ rows)) ++ row ∷ []
  repeated-later first rows found rest =
      let any : list_any (same first) (rows ++ row ∷ []) ≡ true =
      list_any-append (same first) rows (row ∷ []) ∙ ap (λ b. b || list_any (same first) (row ∷ [])) found in
      rw (any, found) rest

  repeated-now : (first : A) (rows : List A) → list_any (same first) rows ≡ false → same first row ≡ true → latest same (rows ++ row ∷ []) ≡ others (latest same rows) ++ row ∷ [] → latest same (first ∷ (rows ++ row ∷ [])) ≡ others (latest same (first ∷ rows)) ++ row ∷ []
  repeated-now first rows none repeats rest =
      let any : list_any (same first) (rows ++ row ∷ []) ≡ true =
      list_any-append (same first) rows (row ∷ []) ∙ ap (λ b. b || list_any (same first) (row ∷ [])) none ∙ ap (λ b. b || false) repeats in
      rw (any, none, repeats) rest

  not_repeated : (first : A) (rows : List A) → list_any (same first) rows ≡ false → same first row ≡ false → latest same (rows ++ row ∷ []) ≡ others (latest same rows) ++ row ∷ [] → latest same (first ∷ (rows ++ row ∷ [])) ≡ others (latest same (first ∷ rows)) ++ row ∷ []
  not_repeated first rows none apart rest =
      let any : list_any (same first) (rows ++ row ∷ []) ≡ false =
      list_any-append (same first) rows (row ∷ []) ∙ ap (λ b. b || list_any (same first) (row ∷ [])) none ∙ ap (λ b. b || false) apart in
      rw (any, none, apart) (ap (λ rows. first ∷ rows) rest)

  pub latest-further : (rows : List A) → latest same (rows ++ row ∷ []) ≡ others (latest same rows) ++ row ∷ []
  latest-further [] = refl
  latest-further (first ∷ rows) =
      elim (cases_Bool (list_any (same first) rows)) [
        | inl found ↦ repeated-later first rows found (latest-further rows)
        | inr none ↦ elim (cases_Bool (same first row)) [
          | inl repeats ↦ repeated-now first rows none repeats (latest-further rows)
          | inr apart ↦ not_repeated first rows none apart (latest-further rows)
        ]
      ]

-- Of rows that repeat each other, the last that passes a test is the one that is kept.
use Rattle.std.proofs.Common.{◌≡◌, Bool, true, false, cond, List, [], ◌∷◌, Option, Some, None, refl, sym, ◌∙◌, inl, inr, fold}
use Rattle.std.specs.List.{list_any, find}
use Rattle.std.proofs.lemmas.Bool.{cases_Bool}
use Rattle.mz_base.specs.Latest.{latest}

module _ {A : Type 0} (same : A → A → Bool) (p : A → Bool) where
  -- the last row so far that passes
  abbrev pub later : Option A → A → Option A
  later found row = cond (p row) (Some row) found

  abbrev pub last_where : List A → Option A
  last_where rows = fold later None rows

  -- what was found before does not show, where a row passes
  fold-some : (rows : List A) (found other : Option A) → list_any p rows ≡ true → fold later found rows ≡ fold later other rows
  fold-some [] found other none = absurd (cc)
  fold-some (row ∷ rows) found other some =
      elim (cases_Bool (p row)) [
        | inl is ↦ rw is refl
        | inr not_row ↦ rw not_row (fold-some rows found other (rw not_row at some))
      ]

  -- it shows where none passes
  fold-none : (rows : List A) (found : Option A) → list_any p rows ≡ false → fold later found rows ≡ found
  fold-none [] found none = refl
  fold-none (row ∷ rows) found none =
      elim (cases_Bool (p row)) [
        | inl is ↦ absurd (let never : true ≡ false = rw is at none in cc)
        | inr not_row ↦ rw not_row (fold-none rows found (rw not_row at none))
      ]

  list_any-same : (f g : A → Bool) (rows : List A) → ((row : A) → f row ≡ g row) → list_any f rows ≡ list_any g rows
  list_any-same f g [] each = refl
  list_any-same f g (row ∷ rows) each = rw (each row, list_any-same f g rows each) refl

  -- a row that passes is repeated by those that pass
  pub find-latest : ((row other : A) → p row ≡ true → same row other ≡ p other) → (rows : List A) → find p (latest same rows) ≡ last_where rows
  find-latest agree [] = refl
  find-latest agree (row ∷ rows) =
      elim (cases_Bool (p row)) [
        | inl is ↦ (
            let repeats : list_any (same row) rows ≡ list_any p rows = list_any-same (same row) p rows (λ other. agree row other is) in
            elim (cases_Bool (list_any p rows)) [
              | inl some ↦ rw (repeats, some, is) (find-latest agree rows ∙ fold-some rows None (Some row) some)
              | inr none ↦ rw (repeats, none, is) (sym (fold-none rows (Some row) none))
            ]
            )
        | inr not_row ↦ elim (cases_Bool (list_any (same row) rows)) [
          | inl some ↦ rw (some, not_row) (find-latest agree rows)
          | inr none ↦ rw (none, not_row) (find-latest agree rows)
        ]
      ]

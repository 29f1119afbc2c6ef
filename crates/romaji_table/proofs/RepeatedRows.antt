-- What is kept of rows that repeat each other.
use Rattle.std.proofs.Common.{◌≡◌, Bool, false, List, [], ◌∷◌, ◌++◌, inl, inr, refl, arith}
use Rattle.std.specs.List.{All, Contains, list_any}
use Rattle.std.proofs.lemmas.Bool.{cases_Bool}
use Rattle.std.proofs.lemmas.List.Elements.{All-nil, All-cons, All-weaker, Contains-append_right}
use Rattle.mz_base.specs.Latest.{latest}

module _ {A : Type 0} (same : A → A → Bool) where
  -- what is among the later rows is among all
  more : (row : A) (rows : List A) (x : A) → Contains rows x → Contains (row ∷ rows) x
  more row rows x = Contains-append_right (row ∷ []) rows x

  -- each row that is kept is a row
  pub latest-Contains : (rows : List A) → All (Contains rows) (latest same rows)
  latest-Contains [] = All-nil (Contains [])
  latest-Contains (row ∷ rows) =
      let rest = All-weaker (Contains rows) (Contains (row ∷ rows)) (more row rows) (latest same rows) (latest-Contains rows) in
      elim (cases_Bool (list_any (same row) rows)) [
        | inl repeats ↦ rw repeats rest
        | inr last ↦ rw last (All-cons (Contains (row ∷ rows)) row (latest same rows) (0, omega arith, refl) rest)
      ]

  -- a row that no later row repeats is kept
  pub latest-last : (before after : List A) (row : A) → list_any (same row) after ≡ false → Contains (latest same (before ++ row ∷ after)) row
  latest-last [] after row last = rw last (0, omega arith, refl)
  latest-last (other ∷ before) after row last =
      let kept = latest-last before after row last in
      elim (cases_Bool (list_any (same other) (before ++ row ∷ after))) [
        | inl repeats ↦ rw repeats kept
        | inr alone ↦ rw alone (more other (latest same (before ++ row ∷ after)) row kept)
      ]

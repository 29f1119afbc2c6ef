-- The step that adds a version keeps the rule of the book.
use Rattle.std.proofs.Common.{◌≡◌, ℕ, ◌+◌, ◌<◌, ◌==◌, Bool, true, false, List, [], ◌∷◌, ◌++◌, length, refl, ap, sym, ◌∙◌, subst, arith, inl, length-append, None}
use Rattle.std.proofs.lemmas.List.{append-nil}
use Rattle.std.proofs.lemmas.Bool.Decides.{nat_tests}
use mathlib.Core.List.{IsPrefix}
use prog.Atomic.{either}
use Rattle.logbook.specs.Pages.{Cell, cell, keeps, no_nib, step, Moves, Goes}
use Rattle.versions.specs.declared.history.Version.{Version}
use Rattle.versions.specs.Histories.{IsPlace}
use Rattle.versions.specs.Books.{IsKept, Adds}
use Rattle.versions.proofs.Prefixes.{prefix_whole}

module _ {T E : Type 0} where
  abbrev pub shown : List (Version T E) → List (Version T E)
  shown log = []

  abbrev pub moved : List (Version T E) → List (Version T E) → ℕ → Type 0
  moved xs ys n = Unit {0}

  -- what the step on the word asks
  abbrev pub AddGoes : List (Version T E) → Version T E → ℕ → List Cell → List (Version T E) → Type 0
  AddGoes seen version place = Goes IsKept shown moved 0 (seen, (no_nib, None)) (λ n. either (n == place) (place + 1) n) (Adds (step 0 place (place + 1) version) (seen, (no_nib, None)))

  add_goes : (seen : List (Version T E)) (version : Version T E) (place n : ℕ) (log : List (Version T E)) → IsPlace place seen → IsPlace n log → IsPrefix seen log
      → (b : Bool) → (n == place) ≡ b → AddGoes seen version place ((n, true) ∷ []) log
  add_goes seen version place n log at at_log pre true is =
      let here : n ≡ place = grind (arith, nat_tests) in
      let same : seen ≡ log = prefix_whole seen log pre (omega arith) in
      let word : either (n == place) (place + 1) n ≡ place + 1 = rw is refl in (
        keeps,
        version ∷ [],
        None,
        tt,
        (place + 1, omega (arith, length-append log (version ∷ [])), ap (λ (k : ℕ). (k, true) ∷ []) word),
        inl (refl, refl),
        rw is (ap (λ w. w ++ version ∷ []) (sym same)),
      )
  add_goes seen version place n log at at_log pre false is =
      let all : log ++ [] ≡ log = append-nil log in
      let word : either (n == place) (place + 1) n ≡ n = rw is refl in (
        keeps,
        [],
        None,
        tt,
        (n, ap length all ∙ at_log, ap (λ (k : ℕ). (k, true) ∷ []) word),
        inl (refl, refl),
        rw is (ap length all ∙ at_log),
      )

  -- whatever the book is, the step adds the version to all that was seen, or finds that the history is longer
  pub add_moves : (seen : List (Version T E)) (version : Version T E) (place : ℕ) → IsPlace place seen
      → Moves IsKept shown moved 0 (seen, (no_nib, None)) (λ n. either (n == place) (place + 1) n) (Adds (step 0 place (place + 1) version) (seen, (no_nib, None)))
  add_moves seen version place at cells log kept pre away =
      let P : List Cell → Type 0 = λ c. (0 < length c) × ((cell c 0).1 ≡ true) × AddGoes seen version place c log in
      subst P (sym kept.2) (omega arith, refl, add_goes seen version place kept.0 log at kept.1 pre (kept.0 == place) refl)

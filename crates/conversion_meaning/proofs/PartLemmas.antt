-- The parts of a path between positions that no entry of it crosses.
use Rattle.std.proofs.Common.{◌≡◌, refl, sym, ap, ◌∙◌, subst, ℕ, ◌<◌, ◌≤◌, Bool, true, false, cond, ◌⊎◌, inl, inr, List, [], ◌∷◌, ◌++◌, length, arith}
use Rattle.std.specs.Prelude.{◌&&◌, filter, nat_le}
use Rattle.std.specs.List.{flat_map}
use Rattle.std.proofs.lemmas.Bool.Decides.{nat_tests}
use Rattle.mz_base.specs.Data.{DataLists}
use Rattle.mz_base.specs.declared.lattice.Entry.{Entry}
use Rattle.conversion_meaning.specs.Lattices.{entry}
use Rattle.conversion_meaning.specs.Paths.{IsPath}
use Rattle.conversion_meaning.specs.Segments.{breaks, goes_on, parts_from, path_in}
use Rattle.conversion_meaning.proofs.CutLemmas.{Ascends}
use Rattle.conversion_meaning.proofs.Duality.{AreForward, IsPath-forward}
use Rattle.conversion_meaning.proofs.Lists.{Among}

-- the entry does not lead across a position
abbrev pub IsBeside : ℕ → Entry → Type 0
IsBeside here e = (e.end ≤ here) ⊎ (here ≤ e.begin)

-- nor does any of a path
abbrev pub IsUncrossed : List Entry → ℕ → List ℕ → Type 0
IsUncrossed es here [] = Unit {0}
IsUncrossed es here (o ∷ path) = IsBeside here (entry es o) × IsUncrossed es here path

-- the entry is inside a part
abbrev pub is_within : ℕ → ℕ → Entry → Bool
is_within a b e = nat_le a e.begin && nat_le e.end b

pub within_true : (a b : ℕ) (e : Entry) → a ≤ e.begin → e.end ≤ b → is_within a b e ≡ true
within_true a b e low high = grind (arith, nat_tests)

within_low : (a b : ℕ) (e : Entry) → e.begin < a → is_within a b e ≡ false
within_low a b e low = grind (arith, nat_tests)

within_high : (a b : ℕ) (e : Entry) → b < e.end → is_within a b e ≡ false
within_high a b e high = grind (arith, nat_tests)

-- without an end before it, only the begin decides
within_end : (a b : ℕ) (e : Entry) → e.end ≤ b → is_within a b e ≡ nat_le a e.begin
within_end a b e high = grind (arith, nat_tests)

le_true : (a b : ℕ) → a ≤ b → nat_le a b ≡ true
le_true a b h = grind (arith, nat_tests)

le_false : (a b : ℕ) → b < a → nat_le a b ≡ false
le_false a b h = grind (arith, nat_tests)

-- the path's entries from a position on
abbrev pub path_from : List Entry → List ℕ → ℕ → List ℕ
path_from es path here = filter (λ o. nat_le here (entry es o).begin) path

module _ (es : List Entry) (forward : AreForward es) where
  -- a path that begins past a part has no entry in it
  path_in-past : (a b from to : ℕ) (path : List ℕ) → b ≤ from → IsPath es from to path → path_in es path (a, b) ≡ []
  path_in-past a b from to [] past joined = refl
  path_in-past a b from to (o ∷ path) past joined =
      let this : (entry es o).begin < (entry es o).end = forward o joined.0 in
      let begins = joined.1 in
      let high : b < (entry es o).end = omega (arith, this, begins) in
      rw (within_high a b (entry es o) high) (path_in-past a b (entry es o).end to path (omega (arith, high)) joined.2)

  -- a path that begins inside a part leads to its end
  IsPath-inside : (a b from to : ℕ) (path : List ℕ) → a ≤ from → from ≤ b → b ≤ to → IsUncrossed es b path → IsPath es from to path → IsPath es from b (path_in es path (a, b))
  IsPath-inside a b from to [] low high last uncrossed joined = omega (arith, joined)
  IsPath-inside a b from to (o ∷ path) low high last uncrossed joined =
      by_side uncrossed.0 (IsPath-inside a b (entry es o).end to path)
    where
      this : (entry es o).begin < (entry es o).end
      this = forward o joined.0

      begins : (entry es o).begin ≡ from
      begins = joined.1

      by_side : IsBeside b (entry es o) → (a ≤ (entry es o).end → (entry es o).end ≤ b → b ≤ to → IsUncrossed es b path → IsPath es (entry es o).end to path → IsPath es (entry es o).end b (path_in es path (a, b))) → IsPath es from b (path_in es (o ∷ path) (a, b))
      by_side (inl before) rest =
          let f = this in
          let g = begins in
          let on = rest (omega (arith, f, g)) before last uncrossed.1 joined.2 in
          rw (within_true a b (entry es o) (omega (arith, g)) before) (joined.0, joined.1, on)
      by_side (inr behind) rest =
          let f = this in
          let g = begins in
          let past = path_in-past a b (entry es o).end to path (omega (arith, f, behind)) joined.2 in
          let here : from ≡ b = omega (arith, g, behind) in
          rw (within_high a b (entry es o) (omega (arith, f, behind))) (subst (λ p. IsPath es from b p) (sym past) here)

  -- the entries of a part that no entry crosses lead from its begin to its end
  pub IsPath-path_in : (a b from to : ℕ) (path : List ℕ) → from ≤ a → a ≤ b → b ≤ to → IsUncrossed es a path → IsUncrossed es b path → IsPath es from to path → IsPath es a b (path_in es path (a, b))
  IsPath-path_in a b from to [] low some last first second joined = omega (arith, joined)
  IsPath-path_in a b from to (o ∷ path) low some last first second joined =
      by_side first.0 (IsPath-path_in a b (entry es o).end to path)
    where
      this : (entry es o).begin < (entry es o).end
      this = forward o joined.0

      begins : (entry es o).begin ≡ from
      begins = joined.1

      by_side : IsBeside a (entry es o) → ((entry es o).end ≤ a → a ≤ b → b ≤ to → IsUncrossed es a path → IsUncrossed es b path → IsPath es (entry es o).end to path → IsPath es a b (path_in es path (a, b))) → IsPath es a b (path_in es (o ∷ path) (a, b))
      by_side (inl before) rest =
          let f = this in
          rw (within_low a b (entry es o) (omega (arith, f, before))) (rest before some last first.1 second.1 joined.2)
      by_side (inr behind) rest =
          let g = begins in
          let here : from ≡ a = omega (arith, g, behind) in
          subst (λ x. IsPath es x b (path_in es (o ∷ path) (a, b))) here (IsPath-inside a b from to (o ∷ path) (omega (arith, here)) (omega (arith, here, some)) last second joined)

  -- ---- All parts

  pub path_from-all : (here from to : ℕ) (path : List ℕ) → here ≤ from → IsPath es from to path → path_from es path here ≡ path
  path_from-all here from to [] low joined = refl
  path_from-all here from to (o ∷ path) low joined =
      let this : (entry es o).begin < (entry es o).end = forward o joined.0 in
      let begins = joined.1 in
      let first : here ≤ (entry es o).begin = omega (arith, begins) in
      rw (le_true here (entry es o).begin first) (ap (λ p. o ∷ p) (path_from-all here (entry es o).end to path (omega (arith, this, first)) joined.2))

  path_from-none : (from to : ℕ) (path : List ℕ) → IsPath es from to path → path_from es path to ≡ []
  path_from-none from to [] joined = refl
  path_from-none from to (o ∷ path) joined =
      let this : (entry es o).begin < (entry es o).end = forward o joined.0 in
      let last : (entry es o).end ≤ to = IsPath-forward es forward (entry es o).end to path joined.2 in
      rw (le_false to (entry es o).begin (omega (arith, this, last))) (path_from-none (entry es o).end to path joined.2)

  -- from a position on that no entry crosses the path leads to its end
  pub IsPath-path_from : (here from to : ℕ) (path : List ℕ) → from ≤ here → here ≤ to → IsUncrossed es here path → IsPath es from to path → IsPath es here to (path_from es path here)
  IsPath-path_from here from to [] low last uncrossed joined = omega (arith, joined)
  IsPath-path_from here from to (o ∷ path) low last uncrossed joined =
      by_side uncrossed.0 (IsPath-path_from here (entry es o).end to path)
    where
      this : (entry es o).begin < (entry es o).end
      this = forward o joined.0

      begins : (entry es o).begin ≡ from
      begins = joined.1

      by_side : IsBeside here (entry es o) → ((entry es o).end ≤ here → here ≤ to → IsUncrossed es here path → IsPath es (entry es o).end to path → IsPath es here to (path_from es path here)) → IsPath es here to (path_from es (o ∷ path) here)
      by_side (inl before) rest =
          let f = this in
          rw (le_false here (entry es o).begin (omega (arith, f, before))) (rest before last uncrossed.1 joined.2)
      by_side (inr behind) rest =
          let g = begins in
          let same : from ≡ here = omega (arith, g, behind) in
          subst (λ p. IsPath es here to p) (sym (path_from-all here from to (o ∷ path) (omega (arith, same)) joined)) (subst (λ x. IsPath es x to (o ∷ path)) same joined)

  -- a part, and what follows it
  pub path_in-append : (a b from to : ℕ) (path : List ℕ) → a ≤ b → IsUncrossed es b path → IsPath es from to path → path_in es path (a, b) ++ path_from es path b ≡ path_from es path a
  path_in-append a b from to [] some uncrossed joined = refl
  path_in-append a b from to (o ∷ path) some uncrossed joined =
      by_side uncrossed.0 (path_in-append a b (entry es o).end to path some uncrossed.1 joined.2)
    where
      this : (entry es o).begin < (entry es o).end
      this = forward o joined.0

      begins : (entry es o).begin ≡ from
      begins = joined.1

      by_first : (t : Bool) → path_in es path (a, b) ++ path_from es path b ≡ path_from es path a → cond t (o ∷ path_in es path (a, b)) (path_in es path (a, b)) ++ path_from es path b ≡ cond t (o ∷ path_from es path a) (path_from es path a)
      by_first true rest = ap (λ p. o ∷ p) rest
      by_first false rest = rest

      by_side : IsBeside b (entry es o) → path_in es path (a, b) ++ path_from es path b ≡ path_from es path a → path_in es (o ∷ path) (a, b) ++ path_from es (o ∷ path) b ≡ path_from es (o ∷ path) a
      by_side (inl before) rest =
          let f = this in
          rw (within_end a b (entry es o) before) (rw (le_false b (entry es o).begin (omega (arith, f, before))) (by_first (nat_le a (entry es o).begin) rest))
      by_side (inr behind) rest =
          let g = begins in
          let past = path_in-past a b from to (o ∷ path) (omega (arith, g, behind)) joined in
          let later = path_from-all b from to (o ∷ path) (omega (arith, g, behind)) joined in
          let whole = path_from-all a from to (o ∷ path) (omega (arith, g, behind)) joined in
          ap (λ p. p ++ path_from es (o ∷ path) b) past ∙ (later ∙ sym whole)

  -- the parts between positions that rise to the path's end are all that follows the first
  parts_from-all : (a from to : ℕ) (ends path : List ℕ) → Ascends a to ends → ((x : ℕ) → Among x ends → IsUncrossed es x path) → IsPath es from to path → flat_map (path_in es path) (parts_from a ends) ≡ path_from es path a
  parts_from-all a from to [] path rises uncrossed joined =
      sym (ap (path_from es path) rises ∙ path_from-none from to path joined)
  parts_from-all a from to (x ∷ ends) path rises uncrossed joined =
      let first = rises.0 in
      ap (λ p. path_in es path (a, x) ++ p) (parts_from-all x from to ends path rises.1 (λ y h. uncrossed y (inr h)) joined) ∙ path_in-append a x from to path (omega (arith, first)) (uncrossed x (inl refl)) joined

  pub parts-all : (to : ℕ) (ends path : List ℕ) → Ascends 0 to ends → ((x : ℕ) → Among x ends → IsUncrossed es x path) → IsPath es 0 to path → flat_map (path_in es path) (parts_from 0 ends) ≡ path
  parts-all to ends path rises uncrossed joined =
      parts_from-all 0 0 to ends path rises uncrossed joined ∙ path_from-all 0 0 to path (omega arith) joined

  -- ---- Positions that no entry crosses

  -- none before the path
  pub IsUncrossed-before : (here from to : ℕ) (path : List ℕ) → here ≤ from → IsPath es from to path → IsUncrossed es here path
  IsUncrossed-before here from to [] low joined = tt
  IsUncrossed-before here from to (o ∷ path) low joined =
      let this : (entry es o).begin < (entry es o).end = forward o joined.0 in
      let begins = joined.1 in
      (inr (omega (arith, begins)), IsUncrossed-before here (entry es o).end to path (omega (arith, this, begins)) joined.2)

  -- nor where all entries are beside
  pub IsUncrossed-each : (here : ℕ) → ((o : ℕ) → o < length es → IsBeside here (entry es o)) → (from to : ℕ) (path : List ℕ) → IsPath es from to path → IsUncrossed es here path
  IsUncrossed-each here beside from to [] joined = tt
  IsUncrossed-each here beside from to (o ∷ path) joined =
      (beside o joined.0, IsUncrossed-each here beside (entry es o).end to path joined.2)

  -- nor at a break
  pub IsUncrossed-break : (d : DataLists) (here from to : ℕ) (path : List ℕ) → IsPath es from to path → Among here (breaks d es path) → (from ≤ here) × IsUncrossed es here path
  IsUncrossed-break d here from to [] joined h = absurd h
  IsUncrossed-break d here from to (o ∷ path) joined h =
      by_test (goes_on d es o path) h (IsUncrossed-break d here (entry es o).end to path joined.2)
    where
      this : (entry es o).begin < (entry es o).end
      this = forward o joined.0

      begins : (entry es o).begin ≡ from
      begins = joined.1

      later : ((entry es o).end ≤ here) × IsUncrossed es here path → (from ≤ here) × IsUncrossed es here (o ∷ path)
      later rest =
          let f = this in
          let g = begins in
          let low = rest.0 in
          (omega (arith, f, g, low), (inl low, rest.1))

      by_test : (t : Bool) → Among here (cond t (breaks d es path) ((entry es o).end ∷ breaks d es path)) → (Among here (breaks d es path) → ((entry es o).end ≤ here) × IsUncrossed es here path) → (from ≤ here) × IsUncrossed es here (o ∷ path)
      by_test true k rest = later (rest k)
      by_test false (inl same) rest =
          later (omega (arith, same), IsUncrossed-before here (entry es o).end to path (omega (arith, same)) joined.2)
      by_test false (inr k) rest = later (rest k)

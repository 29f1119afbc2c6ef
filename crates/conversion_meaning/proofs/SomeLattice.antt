-- A key with its bounds has a lattice: its entries can be put in the order of ends.
use Rattle.std.proofs.Common.{◌≡◌, refl, ap, ◌∙◌, subst, ℕ, zero, suc, ◌<◌, ◌≤◌, Bool, true, false, cond, ◌⊎◌, inl, inr, List, [], ◌∷◌, length, arith}
use Rattle.std.specs.Prelude.{nat_lt}
use Rattle.std.proofs.lemmas.Bool.Decides.{nat_tests}
use Rattle.mz_base.specs.Data.{DataLists}
use Rattle.mz_base.specs.declared.lattice.Entry.{Entry}
use Rattle.mz_base.specs.declared.lattice.Lattice.{Lattice}
use Rattle.mz_base.specs.declared.user.UserRow.{UserRow}
use Rattle.conversion_meaning.specs.Entries.{entries}
use Rattle.conversion_meaning.specs.Lattices.{AreBounds, AreInEndOrder, IsByEnd, IsKey, IsLatticeOf, entry}
use Rattle.conversion_meaning.proofs.InOrderLemmas.{Contains-from_among}
use Rattle.conversion_meaning.proofs.Lists.{All-from_among, AllPairs-from_rises, Among, Rises}

module _ (es : List Entry) where
  -- an ordinal put behind those whose entry ends no later
  abbrev put : ℕ → List ℕ → List ℕ
  put o [] = o ∷ []
  put o (x ∷ xs) = cond (nat_lt (entry es o).end (entry es x).end) (o ∷ x ∷ xs) (x ∷ put o xs)

  length-put : (o : ℕ) (xs : List ℕ) → length (put o xs) ≡ suc (length xs)
  length-put o [] = refl
  length-put o (x ∷ xs) = by (length-put o xs) (nat_lt (entry es o).end (entry es x).end)
    where
      by : length (put o xs) ≡ suc (length xs) → (b : Bool) → length (cond b (o ∷ x ∷ xs) (x ∷ put o xs)) ≡ suc (suc (length xs))
      by rest true = refl
      by rest false = ap suc rest

  Among-put : (o : ℕ) (xs : List ℕ) → Among o (put o xs)
  Among-put o [] = inl refl
  Among-put o (x ∷ xs) = by (Among-put o xs) (nat_lt (entry es o).end (entry es x).end)
    where
      by : Among o (put o xs) → (b : Bool) → Among o (cond b (o ∷ x ∷ xs) (x ∷ put o xs))
      by rest true = inl refl
      by rest false = inr rest

  Among-put_before : (y o : ℕ) (xs : List ℕ) → Among y xs → Among y (put o xs)
  Among-put_before y o [] h = absurd h
  Among-put_before y o (x ∷ xs) h = by (Among-put_before y o xs) (nat_lt (entry es o).end (entry es x).end) h
    where
      by : (Among y xs → Among y (put o xs)) → (b : Bool) → Among y (x ∷ xs) → Among y (cond b (o ∷ x ∷ xs) (x ∷ put o xs))
      by rest true h = inr h
      by rest false (inl e) = inl e
      by rest false (inr h) = inr (rest h)

  from_put : (y o : ℕ) (xs : List ℕ) → Among y (put o xs) → (o ≡ y) ⊎ Among y xs
  from_put y o [] (inl e) = inl e
  from_put y o [] (inr h) = absurd h
  from_put y o (x ∷ xs) h = by (from_put y o xs) (nat_lt (entry es o).end (entry es x).end) h
    where
      further : (o ≡ y) ⊎ Among y xs → (o ≡ y) ⊎ Among y (x ∷ xs)
      further (inl e) = inl e
      further (inr h) = inr (inr h)

      by : (Among y (put o xs) → (o ≡ y) ⊎ Among y xs) → (b : Bool) → Among y (cond b (o ∷ x ∷ xs) (x ∷ put o xs)) → (o ≡ y) ⊎ Among y (x ∷ xs)
      by rest true (inl e) = inl e
      by rest true (inr h) = inr h
      by rest false (inl e) = inr (inl e)
      by rest false (inr h) = further (rest h)

  abbrev InOrder : ℕ → ℕ → Type 0
  InOrder = AreInEndOrder es

  -- what was put last has the greatest ordinal
  Rises-put : (o : ℕ) (xs : List ℕ) → Rises InOrder xs → ((y : ℕ) → Among y xs → y < o) → Rises InOrder (put o xs)
  Rises-put o [] rises lower = (λ y h. absurd h, tt)
  Rises-put o (x ∷ xs) rises lower =
      by (Rises-put o xs rises.1 (λ y h. lower y (inr h))) (nat_lt (entry es o).end (entry es x).end) refl
    where
      by : Rises InOrder (put o xs) → (b : Bool) → nat_lt (entry es o).end (entry es x).end ≡ b → Rises InOrder (cond b (o ∷ x ∷ xs) (x ∷ put o xs))
      by rest true is = (first, rises)
        where
          sooner : (entry es o).end < (entry es x).end
          sooner = grind (arith, nat_tests, is)

          before : (y : ℕ) → (entry es o).end < (entry es y).end → InOrder o y
          before y less = record { ends = omega (arith, less); ties = λ same. absurd (omega (arith, less, same)) }

          first : (y : ℕ) → Among y (x ∷ xs) → InOrder o y
          first y (inl e) = before y (subst (λ z. (entry es o).end < (entry es z).end) e sooner)
          first y (inr h) = let last = (rises.0 y h).ends in before y (omega (arith, sooner, last))
      by rest false is = (behind, rest)
        where
          no_sooner : (entry es x).end ≤ (entry es o).end
          no_sooner = grind (arith, nat_tests, is)

          after : (y : ℕ) → (o ≡ y) ⊎ Among y xs → InOrder x y
          after y (inl e) = subst (InOrder x) e (record { ends = no_sooner; ties = λ same. lower x (inl refl) })
          after y (inr h) = rises.0 y h

          behind : (y : ℕ) → Among y (put o xs) → InOrder x y
          behind y h = after y (from_put y o xs h)

  -- the first so many ordinals, put in one after the other
  abbrev by_end : ℕ → List ℕ
  by_end zero = []
  by_end (suc n) = put n (by_end n)

  length-by_end : (n : ℕ) → length (by_end n) ≡ n
  length-by_end zero = refl
  length-by_end (suc n) = length-put n (by_end n) ∙ ap suc (length-by_end n)

  Among-by_end : (n o : ℕ) → o < n → Among o (by_end n)
  Among-by_end zero o low = absurd (omega (arith, low))
  Among-by_end (suc n) o low = by_place (Among-by_end n o) (order o n low)
    where
      order : (o n : ℕ) → o < suc n → (n ≡ o) ⊎ (o < n)
      order o n low = grind arith

      by_place : (o < n → Among o (by_end n)) → (n ≡ o) ⊎ (o < n) → Among o (put n (by_end n))
      by_place rest (inl e) = subst (λ x. Among x (put n (by_end n))) e (Among-put n (by_end n))
      by_place rest (inr less) = Among-put_before o n (by_end n) (rest less)

  from_by_end : (n o : ℕ) → Among o (by_end n) → o < n
  from_by_end zero o h = absurd h
  from_by_end (suc n) o h = by_place (from_by_end n o) (from_put o n (by_end n) h)
    where
      by_place : (Among o (by_end n) → o < n) → (n ≡ o) ⊎ Among o (by_end n) → o < suc n
      by_place rest (inl e) = omega (arith, e)
      by_place rest (inr h) = let low = rest h in omega (arith, low)

  Rises-by_end : (n : ℕ) → Rises InOrder (by_end n)
  Rises-by_end zero = tt
  Rises-by_end (suc n) = Rises-put n (by_end n) (Rises-by_end n) (λ y h. from_by_end n y h)

  IsByEnd-by_end : IsByEnd es (by_end (length es))
  IsByEnd-by_end =
      record {
        count = length-by_end (length es);
        ordinals = All-from_among (λ o. o < length es) (by_end (length es)) (from_by_end (length es));
        each = λ o low. Contains-from_among (by_end (length es)) o (Among-by_end (length es) o low);
        rising = AllPairs-from_rises InOrder (by_end (length es)) (Rises-by_end (length es));
      }

abbrev pub some_lattice : DataLists → List UserRow → List ℕ → List ℕ → Lattice
some_lattice set rows key bounds =
    let es = entries set rows key bounds in
    record { key = key; bounds = bounds; entries = es; by_end = by_end es (length es) }

pub IsLatticeOf-some : (set : DataLists) (rows : List UserRow) (key bounds : List ℕ) → IsKey key → AreBounds key bounds → IsLatticeOf set rows (some_lattice set rows key bounds)
IsLatticeOf-some set rows key bounds is_key are =
    record { key = is_key; bounds = are; entries_are = refl; by_end = IsByEnd-by_end (entries set rows key bounds) }

-- What leads to a position, read backwards, and paths, read forwards, are the same.
use Rattle.std.proofs.Common.{◌≡◌, refl, sym, ap, ◌∙◌, subst, ℕ, ◌<◌, ◌≤◌, ◌⊎◌, inl, inr, List, [], ◌∷◌, ◌++◌, length, arith}
use Rattle.std.specs.Prelude.{◌≢◌, ℤ, ◌+ℤ◌, ◌<ℤ◌, ◌≤ℤ◌, reverse}
use Rattle.std.specs.declared.cmp.Ordering.TheVariants.{Less, Equal}
use Rattle.std.specs.Cmp.Lexicographic.{slice_cmp}
use Rattle.std.specs.Cmp.{nat_cmp_is}
use Rattle.std.specs.Ordering.{nat_cmp}
use Rattle.std.proofs.lemmas.Grind.{reverse_onto}
use Rattle.std.proofs.lemmas.Int.{ints}
use Rattle.std.proofs.lemmas.List.{reverse-reverse}
use Rattle.mz_base.specs.Data.{DataLists}
use Rattle.mz_base.specs.declared.lattice.Entry.{Entry}
use Rattle.mz_base.specs.declared.lattice.Span.{Span}
use Rattle.conversion_meaning.specs.Best.{IsBest}
use Rattle.conversion_meaning.specs.Lattices.{entry}
use Rattle.conversion_meaning.specs.Order.{IsBefore}
use Rattle.conversion_meaning.specs.Paths.{IsPath, cost_between, path_cost}
use Rattle.conversion_meaning.specs.Potentials.{IsLeastCost, cost_to}
use Rattle.conversion_meaning.proofs.Duality.{AreForward}
use Rattle.conversion_meaning.proofs.LeastCosts.{IsPath-push, cost_between-push}
use Rattle.viterbi.specs.Back.{IsWayBack, cost_back, IsNotHigher, IsNotAfter, IsFirstBack}

reverse-cons : (o : ℕ) (back : List ℕ) → reverse (o ∷ back) ≡ reverse back ++ o ∷ []
reverse-cons o back = reverse_onto back o []

-- a path that ends with this entry
IsPath-pop : (es : List Entry) (from to : ℕ) (path : List ℕ) (o : ℕ) → IsPath es from to (path ++ o ∷ []) → (o < length es) × ((entry es o).end ≡ to) × IsPath es from (entry es o).begin path
IsPath-pop es from to [] o joined = (joined.0, joined.2, sym joined.1)
IsPath-pop es from to (x ∷ path) o joined =
    let r = IsPath-pop es (entry es x).end to path o joined.2 in
    (r.0, r.1, (joined.0, joined.1, r.2))

pub IsPath-reverse : (es : List Entry) (from to : ℕ) (back : List ℕ) → IsWayBack es from to back → IsPath es from to (reverse back)
IsPath-reverse es from to [] way = way
IsPath-reverse es from to (o ∷ back) way =
    let rest = IsPath-reverse es from (entry es o).begin back way.2 in
    let whole : IsPath es from (entry es o).end (reverse back ++ o ∷ []) = IsPath-push es from (entry es o).begin (reverse back) o rest way.0 refl in
    let ends : IsPath es from to (reverse back ++ o ∷ []) = subst (λ x. IsPath es from x (reverse back ++ o ∷ [])) way.1 whole in
    subst (λ p. IsPath es from to p) (sym (reverse-cons o back)) ends

IsWayBack-of_reverse : (es : List Entry) (from to : ℕ) (back : List ℕ) → IsPath es from to (reverse back) → IsWayBack es from to back
IsWayBack-of_reverse es from to [] joined = joined
IsWayBack-of_reverse es from to (o ∷ back) joined =
    let r = IsPath-pop es from to (reverse back) o (subst (λ p. IsPath es from to p) (reverse-cons o back) joined) in
    (r.0, r.1, IsWayBack-of_reverse es from (entry es o).begin back r.2)

pub IsWayBack-reverse : (es : List Entry) (from to : ℕ) (path : List ℕ) → IsPath es from to path → IsWayBack es from to (reverse path)
IsWayBack-reverse es from to path joined =
    IsWayBack-of_reverse es from to (reverse path) (subst (λ p. IsPath es from to p) (sym (reverse-reverse path)) joined)

pub cost_between-reverse : (d : DataLists) (es : List Entry) (left right : ℕ) (back : List ℕ) → cost_between d es left right (reverse back) ≡ cost_back d es left right back
cost_between-reverse d es left right [] = refl
cost_between-reverse d es left right (o ∷ back) =
    let e = ap (cost_between d es left right) (reverse-cons o back) in
    let f = cost_between-push d es left right (reverse back) o in
    let rest = cost_between-reverse d es left (entry es o).lid back in
    omega (arith, ints, e, f, rest)

pub cost_back-reverse : (d : DataLists) (es : List Entry) (left right : ℕ) (path : List ℕ) → cost_back d es left right (reverse path) ≡ cost_between d es left right path
cost_back-reverse d es left right path =
    sym (cost_between-reverse d es left right (reverse path)) ∙ ap (cost_between d es left right) (reverse-reverse path)

-- what leads back begins no later
pub IsWayBack-forward : (es : List Entry) → AreForward es → (from to : ℕ) (back : List ℕ) → IsWayBack es from to back → from ≤ to
IsWayBack-forward es forward from to [] way = omega (arith, way)
IsWayBack-forward es forward from to (o ∷ back) way =
    let this = forward o way.0 in
    let rest = IsWayBack-forward es forward from (entry es o).begin back way.2 in
    omega (arith, this, rest, way.1)

-- a list that is not higher is lower, or the same
nat_cmp-less : (a b : ℕ) → a < b → nat_cmp a b ≡ Less
nat_cmp-less a b h = sym (nat_cmp_is a b Less h)

nat_cmp-same : (a : ℕ) → nat_cmp a a ≡ Equal
nat_cmp-same a = sym (nat_cmp_is a a Equal refl)

slice_cmp-lower : (p q : List ℕ) → IsNotHigher p q → p ≢ q → slice_cmp nat_cmp p q ≡ Less
slice_cmp-lower [] [] h differ = absurd (differ refl)
slice_cmp-lower [] (x ∷ q) h differ = refl
slice_cmp-lower (o ∷ p) [] h differ = absurd h
slice_cmp-lower (o ∷ p) (x ∷ q) (inl less) differ = rw (nat_cmp-less o x less) refl
slice_cmp-lower (o ∷ p) (x ∷ q) (inr same) differ =
    let rest = slice_cmp-lower p q same.1 (λ e. differ (cc (same.0, e))) in
    rw (same.0, nat_cmp-same x) rest

order : (a b : ℕ) → a ≤ b → (a < b) ⊎ (a ≡ b)
order a b h = grind arith

module _ (d : DataLists) (es : List Entry) (span : Span) where
  -- nothing leads to the span's begin but the empty list
  pub IsFirstBack-start : AreForward es → (to right : ℕ) → to ≡ span.begin → IsFirstBack d es span to right []
  IsFirstBack-start forward to right start = record { joined = sym start; first = against }
    where
      against : (other : List ℕ) → IsWayBack es span.begin to other → IsNotAfter d es span.left right [] other
      against [] way = inr (refl, tt)
      against (o ∷ other) way =
          let this = forward o way.0 in
          let rest = IsWayBack-forward es forward span.begin (entry es o).begin other way.2 in
          absurd (omega (arith, this, rest, way.1, start))

  -- an entry before a position, and what is first to it
  pub record IsWay (to : ℕ) (o : ℕ) (back : List ℕ) : Type 0 where
    pub inside : o < length es
    pub ends : (entry es o).end ≡ to
    pub first : IsFirstBack d es span (entry es o).begin (entry es o).lid back

  -- this cost, with this ordinal, is up to that of what goes over this entry
  abbrev pub IsUpToOver : ℕ → ℤ → ℕ → ℕ → List ℕ → Type 0
  IsUpToOver right cost ordinal o back =
      (cost <ℤ cost_back d es span.left right (o ∷ back)) ⊎ ((cost ≡ cost_back d es span.left right (o ∷ back)) × (ordinal ≤ o))

  -- what is first to an entry before a position is no better than this, and the same where the entry is
  abbrev pub IsBeaten : ℕ → ℕ → ℕ → List ℕ → ℕ → Type 0
  IsBeaten to right o back x =
      (other : List ℕ) × IsWay to x other × IsUpToOver right (cost_back d es span.left right (o ∷ back)) o x other × (o ≡ x → back ≡ other)

  -- The first to a position goes over an entry that costs least and has the least ordinal, and is first to there.
  pub IsFirstBack-via : (to right o : ℕ) (back : List ℕ) → span.begin ≢ to → IsWay to o back → ((x : ℕ) (other : List ℕ) → x < length es → (entry es x).end ≡ to → IsWayBack es span.begin (entry es x).begin other → IsBeaten to right o back x) → IsFirstBack d es span to right (o ∷ back)
  IsFirstBack-via to right o back apart way least =
      record { joined = (way.inside, way.ends, way.first.joined); first = against }
    where
      same_last : (x : ℕ) (mine other : List ℕ) → (o ≡ x → back ≡ mine) → IsNotHigher mine other → (o < x) ⊎ (o ≡ x) → IsNotHigher (o ∷ back) (x ∷ other)
      same_last x mine other one low (inl less) = inl less
      same_last x mine other one low (inr same) =
          inr (same, subst (λ b. IsNotHigher b other) (sym (one same)) low)

      against_over : (x : ℕ) (mine other : List ℕ) → (o ≡ x → back ≡ mine) → IsNotAfter d es span.left (entry es x).lid mine other → IsUpToOver right (cost_back d es span.left right (o ∷ back)) o x mine → IsNotAfter d es span.left right (o ∷ back) (x ∷ other)
      against_over x mine other one (inl less) (inl cheaper) = inl (omega (arith, ints))
      against_over x mine other one (inl less) (inr tie) = inl (omega (arith, ints, tie.0))
      against_over x mine other one (inr same) (inl cheaper) = inl (omega (arith, ints, same.0))
      against_over x mine other one (inr same) (inr tie) =
          inr (omega (arith, ints, same.0, tie.0), same_last x mine other one same.1 (order o x tie.1))

      against : (other : List ℕ) → IsWayBack es span.begin to other → IsNotAfter d es span.left right (o ∷ back) other
      against [] joined = absurd (apart joined)
      against (x ∷ other) joined =
          let r = least x other joined.0 joined.1 joined.2 in
          against_over x r.0 other r.3 (r.1.first.first other joined.2) r.2

  -- read forwards, the first to an entry has its least cost
  pub IsLeastCost-from_first : (o : ℕ) (back : List ℕ) (cost : ℤ) → IsFirstBack d es span (entry es o).begin (entry es o).lid back → cost ≡ (cost_back d es span.left (entry es o).lid back +ℤ (entry es o).cost) → IsLeastCost d es span o cost
  IsLeastCost-from_first o back cost first cost_is = record {
    reached = (reverse back, IsPath-reverse es span.begin (entry es o).begin back first.joined, (let e = cost_between-reverse d es span.left (entry es o).lid back in omega (arith, ints, e, cost_is)));
    least = λ before joined. least_of before (cost_back-reverse d es span.left (entry es o).lid before) (first.first (reverse before) (IsWayBack-reverse es span.begin (entry es o).begin before joined));
  }
    where
      least_of : (before : List ℕ) → cost_back d es span.left (entry es o).lid (reverse before) ≡ cost_between d es span.left (entry es o).lid before → IsNotAfter d es span.left (entry es o).lid back (reverse before) → cost ≤ℤ cost_to d es span before o
      least_of before e (inl less) = omega (arith, ints, e, cost_is)
      least_of before e (inr tie) = omega (arith, ints, e, cost_is, tie.0)

  -- and the first to the span's end is its best path
  pub IsBest-from_first : (back : List ℕ) → IsFirstBack d es span span.end span.right back → IsBest d es span (reverse back)
  IsBest-from_first back first = record {
    joined = IsPath-reverse es span.begin span.end back first.joined;
    first = λ other joined differ. before other differ (cost_back-reverse d es span.left span.right other) (first.first (reverse other) (IsWayBack-reverse es span.begin span.end other joined));
  }
    where
      mine : path_cost d es span (reverse back) ≡ cost_back d es span.left span.right back
      mine = cost_between-reverse d es span.left span.right back

      apart : (other : List ℕ) → other ≢ reverse back → back ≢ reverse other
      apart other differ same = differ (sym (reverse-reverse other) ∙ ap reverse (sym same))

      before : (other : List ℕ) → other ≢ reverse back → cost_back d es span.left span.right (reverse other) ≡ path_cost d es span other → IsNotAfter d es span.left span.right back (reverse other) → IsBefore d es span (reverse back) other
      before other differ e (inl less) =
          let m = mine in inl (omega (arith, ints, e, m))
      before other differ e (inr tie) =
          let m = mine in
          inr (omega (arith, ints, e, m, tie.0), subst (λ r. slice_cmp nat_cmp r (reverse other) ≡ Less) (sym (reverse-reverse back)) (slice_cmp-lower back (reverse other) tie.1 (apart other differ)))

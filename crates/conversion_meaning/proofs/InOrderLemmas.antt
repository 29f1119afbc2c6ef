-- The list of paths in order: what it has, that it rises, and that it is one.
use Rattle.std.proofs.Common.{◌≡◌, refl, sym, ap, ◌∙◌, subst, ℕ, suc, Bool, true, false, cond, ◌⊎◌, inl, inr, List, [], ◌∷◌, get_or, arith}
use Rattle.std.specs.Prelude.{◌≢◌, reverse}
use Rattle.std.specs.declared.cmp.Ordering.{Ordering}
use Rattle.std.specs.declared.cmp.Ordering.TheVariants.{Less, Equal, Greater}
use Rattle.std.specs.Cmp.Lexicographic.{slice_cmp}
use Rattle.std.specs.List.{AllPairs, Contains}
use Rattle.std.specs.Ordering.{int_cmp, is_lt, nat_cmp, ordering_then}
use Rattle.std.proofs.lemmas.Cmp.{by_ranked, int_ranked}
use Rattle.mz_base.specs.Data.{DataLists}
use Rattle.mz_base.specs.declared.lattice.Entry.{Entry}
use Rattle.mz_base.specs.declared.lattice.Lattice.{Lattice}
use Rattle.mz_base.specs.declared.lattice.Span.{Span}
use Rattle.conversion_meaning.specs.AllPaths.{all_paths}
use Rattle.conversion_meaning.specs.Best.{IsBest}
use Rattle.conversion_meaning.specs.InOrder.{best_path, in_order, is_before, paths_in_order, put_in_order}
use Rattle.conversion_meaning.specs.Lattices.{IsWellFormed}
use Rattle.conversion_meaning.specs.Order.{IsBefore, IsLowerFromLast}
use Rattle.conversion_meaning.specs.Paths.{IsPathOver, IsSpan, path_cost}
use Rattle.conversion_meaning.proofs.AllPathsLemmas.{Rises-all_paths}
use Rattle.conversion_meaning.proofs.BestLemmas.{AreForward-from_well, IsBest-exists, IsBest-in}
use Rattle.conversion_meaning.proofs.Duality.{AreForward}
use Rattle.conversion_meaning.proofs.Lists.{AllPairs-from_rises, Among, Among-get_or, Rises, place_of}
use Rattle.conversion_meaning.proofs.Ordered.{IsBefore-trans, cases_by_order, not_before_back}
use Rattle.conversion_meaning.proofs.PathLemmas.{Among-all_paths, from_all_paths}

-- ---- Lists in order

-- what a list contains is among it
pub Among-from_contains : {X : Type 0} (xs : List X) (x : X) → Contains xs x → Among x xs
Among-from_contains xs x h = subst (λ y. Among y xs) h.2 (Among-get_or xs h.0 x h.1)

pub Contains-from_among : {X : Type 0} (xs : List X) (x : X) → Among x xs → Contains xs x
Contains-from_among xs x h = let r = place_of x xs h in (r.0, r.1, r.2 x)

pub Rises-from_pairs : {X : Type 0} (R : X → X → Type 0) (xs : List X) → AllPairs R xs → Rises R xs
Rises-from_pairs R [] h = tt
Rises-from_pairs {X} R (x ∷ xs) h = (ahead, Rises-from_pairs R xs later)
  where
    ahead : (y : X) → Among y xs → R x y
    ahead y k =
        let r = place_of y xs k in
        subst (λ z. R x z) (r.2 y) (h 0 (suc r.0) y (omega arith) (let low = r.1 in omega (arith, low)))

    later : AllPairs R xs
    later i j d below inside = h (suc i) (suc j) d (omega (arith, below)) (omega (arith, inside))

module _ {X : Type 0} (before : X → X → Bool) where
  from_put : (z x : X) (ys : List X) → Among z (put_in_order before x ys) → Among z (x ∷ ys)
  from_put z x [] h = h
  from_put z x (y ∷ ys) h = by_test (before x y) (from_put z x ys) h
    where
      by_test : (b : Bool) → (Among z (put_in_order before x ys) → Among z (x ∷ ys)) → Among z (cond b (x ∷ (y ∷ ys)) (y ∷ put_in_order before x ys)) → Among z (x ∷ (y ∷ ys))
      by_test true more h = h
      by_test _ more (inl same) = inr (inl same)
      by_test _ more (inr h) = elim (more h) [ inl same ↦ inl same | inr later ↦ inr (inr later) ]

  Among-put : (z x : X) (ys : List X) → Among z (x ∷ ys) → Among z (put_in_order before x ys)
  Among-put z x [] h = h
  Among-put z x (y ∷ ys) h = by_test (before x y) (Among-put z x ys) h
    where
      by_test : (b : Bool) → (Among z (x ∷ ys) → Among z (put_in_order before x ys)) → Among z (x ∷ (y ∷ ys)) → Among z (cond b (x ∷ (y ∷ ys)) (y ∷ put_in_order before x ys))
      by_test true more h = h
      by_test _ more (inl same) = inr (more (inl same))
      by_test _ more (inr (inl same)) = inl same
      by_test _ more (inr (inr later)) = inr (more (inr later))

  pub from_in_order : (z : X) (xs : List X) → Among z (in_order before xs) → Among z xs
  from_in_order z [] h = h
  from_in_order z (x ∷ xs) h =
      elim (from_put z x (in_order before xs) h) [ inl same ↦ inl same | inr later ↦ inr (from_in_order z xs later) ]

  pub Among-in_order : (z : X) (xs : List X) → Among z xs → Among z (in_order before xs)
  Among-in_order z [] h = h
  Among-in_order z (x ∷ xs) (inl same) = Among-put z x (in_order before xs) (inl same)
  Among-in_order z (x ∷ xs) (inr later) =
      Among-put z x (in_order before xs) (inr (Among-in_order z xs later))

  module _ (R : X → X → Type 0) (passes : (x y : X) → before x y ≡ true → R x y) (fails : (x y : X) → x ≢ y → before x y ≡ false → R y x) (goes_on : (x y z : X) → R x y → R y z → R x z) where
    Rises-put : (x : X) (ys : List X) → ((y : X) → Among y ys → x ≢ y) → Rises R ys → Rises R (put_in_order before x ys)
    Rises-put x [] differ h = (λ y k. absurd k, tt)
    Rises-put x (y ∷ ys) differ h =
        by_test (before x y) refl (Rises-put x ys (λ z k. differ z (inr k)) h.1)
      where
        ahead : R x y → (z : X) → Among z (y ∷ ys) → R x z
        ahead first z (inl same) = subst (λ w. R x w) same first
        ahead first z (inr k) = goes_on x y z first (h.0 z k)

        behind : R y x → (z : X) → Among z (put_in_order before x ys) → R y z
        behind first z k =
            elim (from_put z x ys k) [ inl same ↦ subst (λ w. R y w) same first | inr later ↦ h.0 z later ]

        by_test : (b : Bool) → before x y ≡ b → Rises R (put_in_order before x ys) → Rises R (cond b (x ∷ (y ∷ ys)) (y ∷ put_in_order before x ys))
        by_test true is rest = (ahead (passes x y is), h)
        by_test false is rest = (behind (fails x y (differ y (inl refl)) is), rest)

    pub Rises-in_order : (xs : List X) → Rises (λ x y. x ≢ y) xs → Rises R (in_order before xs)
    Rises-in_order [] h = tt
    Rises-in_order (x ∷ xs) h =
        Rises-put x (in_order before xs) (λ y k. h.0 y (from_in_order y xs k)) (Rises-in_order xs h.1)

-- two lists that rise and have the same elements are one
pub rising_is_one : {X : Type 0} (R : X → X → Type 0) → ((x y : X) → R x y → ¬ (R y x)) → (xs ys : List X) → Rises R xs → Rises R ys → ((x : X) → Among x xs → Among x ys) → ((y : X) → Among y ys → Among y xs) → xs ≡ ys
rising_is_one R never [] [] h k into back = refl
rising_is_one R never [] (y ∷ ys) h k into back = absurd (back y (inl refl))
rising_is_one R never (x ∷ xs) [] h k into back = absurd (into x (inl refl))
rising_is_one {X} R never (x ∷ xs) (y ∷ ys) h k into back =
    let same = first (into x (inl refl)) (back y (inl refl)) in
    ap (λ z. z ∷ xs) same ∙ ap (λ zs. y ∷ zs) (rising_is_one R never xs ys h.1 k.1 (forth_rest same) (back_rest same))
  where
    first : Among x (y ∷ ys) → Among y (x ∷ xs) → x ≡ y
    first (inl same) _ = sym same
    first (inr later) (inl same) = same
    first (inr later) (inr other) = absurd (never x y (h.0 y other) (k.0 x later))

    apart : (z w : X) → R z w → z ≢ w
    apart z w one same =
        let itself : R w w = subst (λ v. R v w) same one in never w w itself itself

    forth_rest : x ≡ y → (z : X) → Among z xs → Among z ys
    forth_rest same z later =
        elim (into z (inr later)) [ inl e ↦ absurd (apart x z (h.0 z later) (same ∙ e)) | inr rest ↦ rest ]

    back_rest : x ≡ y → (z : X) → Among z ys → Among z xs
    back_rest same z later =
        elim (back z (inr later)) [ inl e ↦ absurd (apart y z (k.0 z later) (sym same ∙ e)) | inr rest ↦ rest ]

-- ---- The test of the order

less_from : (o : Ordering) → is_lt o ≡ true → o ≡ Less
less_from Less h = refl
less_from Equal h = absurd (let clash : false ≡ true = h in cc)
less_from Greater h = absurd (let clash : false ≡ true = h in cc)

not_less : (o : Ordering) → is_lt o ≡ false → o ≢ Less
not_less o h same = let e : is_lt Less ≡ false = subst (λ p. is_lt p ≡ false) same h in cc

module _ (d : DataLists) (es : List Entry) (span : Span) where
  lower : List ℕ → List ℕ → Ordering
  lower p q = slice_cmp nat_cmp (reverse p) (reverse q)

  by_cost : List ℕ → List ℕ → Ordering → Bool
  by_cost p q o = is_lt (ordering_then o (slice_cmp nat_cmp (reverse p) (reverse q)))

  pub IsBefore-by_test : (p q : List ℕ) → is_before d es span p q ≡ true → IsBefore d es span p q
  unfolding by_cost
  IsBefore-by_test p q passes =
      by_ranked _ _ _ (int_cmp (path_cost d es span p) (path_cost d es span q)) (int_ranked (path_cost d es span p) (path_cost d es span q) _ refl) (λ _ less. inl less) (λ tie same. inr (same, less_from _ (sym (ap (by_cost p q) tie) ∙ passes))) (λ more _. absurd (let clash : false ≡ true = sym (ap (by_cost p q) more) ∙ passes in cc))

  pub IsBefore-by_failure : (p q : List ℕ) → p ≢ q → is_before d es span p q ≡ false → IsBefore d es span q p
  unfolding by_cost
  IsBefore-by_failure p q differ fails =
      by_ranked _ _ _ (int_cmp (path_cost d es span p) (path_cost d es span q)) (int_ranked (path_cost d es span p) (path_cost d es span q) _ refl) (λ less _. absurd (let clash : true ≡ false = sym (ap (by_cost p q) less) ∙ fails in cc)) (λ tie same. inr (sym same, back (cases_by_order p q (slice_cmp nat_cmp (reverse p) (reverse q)) refl) (not_less _ (sym (ap (by_cost p q) tie) ∙ fails)))) (λ _ more. inl more)
    where
      back : (p ≡ q) ⊎ (IsLowerFromLast p q ⊎ IsLowerFromLast q p) → ¬ (IsLowerFromLast p q) → IsLowerFromLast q p
      back (inl same) denied = absurd (differ same)
      back (inr (inl low)) denied = absurd (denied low)
      back (inr (inr low)) denied = low

  -- ---- Paths in order

  pub Rises-paths_in_order : Rises (IsBefore d es span) (paths_in_order d es span)
  unfolding paths_in_order
  Rises-paths_in_order =
      Rises-in_order (is_before d es span) (IsBefore d es span) IsBefore-by_test IsBefore-by_failure (IsBefore-trans d es span) (all_paths es span) (Rises-all_paths es span)

  pub from_paths_in_order : (path : List ℕ) → Among path (paths_in_order d es span) → IsPathOver es span path
  unfolding paths_in_order
  from_paths_in_order path h =
      from_all_paths es span path (from_in_order (is_before d es span) path (all_paths es span) h)

  pub Among-paths_in_order : AreForward es → (path : List ℕ) → IsPathOver es span path → Among path (paths_in_order d es span)
  unfolding paths_in_order
  Among-paths_in_order forward path joined =
      Among-in_order (is_before d es span) path (all_paths es span) (Among-all_paths es span path forward joined)

  pub paths_in_order-one : AreForward es → (paths : List (List ℕ)) → Rises (IsBefore d es span) paths → ((path : List ℕ) → IsPathOver es span path → Among path paths) → ((path : List ℕ) → Among path paths → IsPathOver es span path) → paths ≡ paths_in_order d es span
  paths_in_order-one forward paths rises each only =
      rising_is_one (IsBefore d es span) (not_before_back d es span) paths (paths_in_order d es span) rises Rises-paths_in_order (λ p h. Among-paths_in_order forward p (only p h)) (λ p h. each p (from_paths_in_order p h))

  pub apart : (p q : List ℕ) → IsBefore d es span p q → p ≢ q
  apart p q one same =
      let itself : IsBefore d es span q q = subst (λ v. IsBefore d es span v q) same one in
      not_before_back d es span q q itself itself

  -- the first of a list that rises is before the others, and what is before all others is the first
  best_of : (best : List ℕ) → IsBest d es span best → (paths : List (List ℕ)) → Rises (IsBefore d es span) paths → Among best paths → ((p : List ℕ) → Among p paths → IsPathOver es span p) → best ≡ get_or paths 0 []
  best_of best is [] rises h only = absurd h
  best_of best is (p ∷ ps) rises (inl same) only = sym same
  best_of best is (p ∷ ps) rises (inr later) only =
      let first = rises.0 best later in
      absurd (not_before_back d es span p best first (is.first p (only p (inl refl)) (apart p best first)))

  pub IsBest-is_first : AreForward es → (path : List ℕ) → IsBest d es span path → path ≡ best_path d es span
  unfolding best_path
  IsBest-is_first forward path best =
      best_of path best (paths_in_order d es span) Rises-paths_in_order (Among-paths_in_order forward path best.joined) from_paths_in_order

  -- where there is a path, the first is the best
  pub IsBest-first : AreForward es → (p : List ℕ) → IsPathOver es span p → IsBest d es span (best_path d es span)
  IsBest-first forward p joined =
      let r = IsBest-exists d es span forward p joined in
      subst (λ b. IsBest d es span b) (IsBest-is_first forward r.0 r.1) r.1

pub IsBest-best_path : (d : DataLists) (l : Lattice) (span : Span) → IsWellFormed d l → IsSpan d l span → IsBest d l.entries span (best_path d l.entries span)
IsBest-best_path d l span well is =
    let r = IsBest-in d l span well is in
    IsBest-first d l.entries span (AreForward-from_well d l well) r.0 r.1.joined

pub AllPairs-once : (d : DataLists) (es : List Entry) (span : Span) → AllPairs (λ p q. p ≢ q) (paths_in_order d es span)
AllPairs-once d es span =
    let rises = AllPairs-from_rises (IsBefore d es span) (paths_in_order d es span) (Rises-paths_in_order d es span) in
    λ i j x below inside. apart d es span _ _ (rises i j x below inside)

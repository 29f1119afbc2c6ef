-- The best path over a span is the best list before its best last entry, and then this entry.
use Rattle.std.proofs.Common.{◌≡◌, refl, sym, ap, ◌∙◌, subst, ℕ, ◌<◌, ◌≤◌, ◌⊎◌, inl, inr, List, [], ◌∷◌, ◌++◌, length, arith}
use Rattle.std.specs.Prelude.{◌≢◌, ℤ, ◌<ℤ◌, ◌≤ℤ◌, reverse}
use Rattle.std.specs.declared.cmp.Ordering.TheVariants.{Less, Equal}
use Rattle.std.specs.Cmp.{nat_cmp_is}
use Rattle.std.specs.Cmp.Lexicographic.{slice_cmp}
use Rattle.std.specs.Ordering.{nat_cmp, int_cmp, ordering_then}
use Rattle.std.proofs.lemmas.Cmp.{by_ranked, int_ranked}
use Rattle.std.proofs.lemmas.Int.{ints}
use Rattle.std.proofs.lemmas.List.{reverse-append}
use Rattle.mz_base.specs.Data.{DataLists}
use Rattle.mz_base.specs.declared.lattice.Entry.{Entry}
use Rattle.mz_base.specs.declared.lattice.Lattice.{Lattice}
use Rattle.mz_base.specs.declared.lattice.Span.{Span}
use Rattle.conversion_meaning.specs.Best.{IsBest}
use Rattle.conversion_meaning.specs.Lattices.{IsWellFormed, entry}
use Rattle.conversion_meaning.specs.Order.{IsBefore, IsLowerFromLast}
use Rattle.conversion_meaning.specs.Paths.{IsPath, IsPathOver, path_cost}
use Rattle.conversion_meaning.specs.Potentials.{IsLeastCost, cost_to}
use Rattle.conversion_meaning.specs.Steps.{IsBestLast, IsNotAfter, cost_through, span_before}
use Rattle.conversion_meaning.proofs.BestLemmas.{AreForward-from_well, IsBest-exists}
use Rattle.conversion_meaning.proofs.Duality.{AreForward, IsPath-forward}
use Rattle.conversion_meaning.proofs.LeastCosts.{IsPath-push, cost_between-push, IsBest-le}

-- a list is empty, or has a last element
abbrev pub HasLast : List ℕ → Type 0
HasLast q = (front : List ℕ) × (o : ℕ) × (q ≡ front ++ o ∷ [])

pub last_cases : (q : List ℕ) → (q ≡ []) ⊎ HasLast q
last_cases [] = inl refl
last_cases (x ∷ q) = inr (by_rest x q (last_cases q))
  where
    by_rest : (x : ℕ) (q : List ℕ) → (q ≡ []) ⊎ HasLast q → HasLast (x ∷ q)
    by_rest x q (inl none) = ([], x, ap (λ p. x ∷ p) none)
    by_rest x q (inr r) = (x ∷ r.0, r.1, ap (λ p. x ∷ p) r.2)

-- without its last entry a path ends where that begins
pub IsPath-front : (es : List Entry) (from to : ℕ) (front : List ℕ) (o : ℕ) → IsPath es from to (front ++ o ∷ []) → IsPath es from (entry es o).begin front × (o < length es) × ((entry es o).end ≡ to)
IsPath-front es from to [] o joined = (sym joined.1, joined.0, joined.2)
IsPath-front es from to (x ∷ front) o joined =
    let r = IsPath-front es (entry es x).end to front o joined.2 in
    ((joined.0, joined.1, r.0), r.1, r.2)

reverse-push : (front : List ℕ) (o : ℕ) → reverse (front ++ o ∷ []) ≡ o ∷ reverse front
reverse-push front o = reverse-append front (o ∷ [])

compared-push : (p q : List ℕ) (a b : ℕ) → slice_cmp nat_cmp (reverse (p ++ a ∷ [])) (reverse (q ++ b ∷ [])) ≡ ordering_then (nat_cmp a b) (slice_cmp nat_cmp (reverse p) (reverse q))
compared-push p q a b =
    ap (λ xs. slice_cmp nat_cmp xs (reverse (q ++ b ∷ []))) (reverse-push p a) ∙ ap (λ ys. slice_cmp nat_cmp (a ∷ reverse p) ys) (reverse-push q b)

-- the lower last ordinal makes a list lower from the last
pub lower_last : (p q : List ℕ) (a b : ℕ) → a < b → IsLowerFromLast (p ++ a ∷ []) (q ++ b ∷ [])
lower_last p q a b less =
    let first : nat_cmp a b ≡ Less = sym (nat_cmp_is a b Less less) in
    compared-push p q a b ∙ ap (λ o. ordering_then o (slice_cmp nat_cmp (reverse p) (reverse q))) first

-- with one last ordinal the fronts decide
pub lower_front : (p q : List ℕ) (a : ℕ) → IsLowerFromLast p q → IsLowerFromLast (p ++ a ∷ []) (q ++ a ∷ [])
lower_front p q a lower =
    let first : nat_cmp a a ≡ Equal = sym (nat_cmp_is a a Equal refl) in
    compared-push p q a a ∙ (ap (λ o. ordering_then o (slice_cmp nat_cmp (reverse p) (reverse q))) first ∙ lower)

-- nothing else leads from a position to itself
pub only_nothing : (es : List Entry) → AreForward es → (here : ℕ) (q : List ℕ) → IsPath es here here q → q ≡ []
only_nothing es forward here [] joined = refl
only_nothing es forward here (o ∷ q) joined =
    let ahead = forward o joined.0 in
    let rest = IsPath-forward es forward (entry es o).end here q joined.2 in
    absurd (omega (arith, joined.1, ahead, rest))

pub IsBest-nothing : (d : DataLists) (l : Lattice) (span : Span) → IsWellFormed d l → span.begin ≡ span.end → IsBest d l.entries span []
IsBest-nothing d l span well same =
    record { joined = same; first = λ q over differ. absurd (differ (only_nothing l.entries (AreForward-from_well d l well) span.begin q (subst (λ x. IsPath l.entries span.begin x q) (sym same) over))) }

pub number_cases : (x y : ℤ) → (x <ℤ y) ⊎ ((x ≡ y) ⊎ (y <ℤ x))
number_cases x y =
    by_ranked (x <ℤ y) (x ≡ y) (y <ℤ x) (int_cmp x y) (int_ranked x y (int_cmp x y) refl) (λ _ less. inl less) (λ _ same. inr (inl same)) (λ _ more. inr (inr more))

ordinal_cases : (a b : ℕ) → (a < b) ⊎ ((a ≡ b) ⊎ (b < a))
ordinal_cases a b = grind arith

module _ (d : DataLists) (es : List Entry) (forward : AreForward es) (span : Span) (before : List ℕ) (o : ℕ) (last : IsBestLast d es span before o) where
  cost_is : (p : List ℕ) (a : ℕ) → path_cost d es span (p ++ a ∷ []) ≡ cost_through d es span p a
  cost_is p a = cost_between-push d es span.left span.right p a

  -- it costs as much as a path with a last ordinal that is not lower
  tied : (front : List ℕ) (a : ℕ) → IsPath es span.begin (entry es a).begin front → front ++ a ∷ [] ≢ before ++ o ∷ [] → cost_through d es span before o ≡ cost_through d es span front a → (o < a) ⊎ ((o ≡ a) ⊎ (a < o)) → o ≤ a → IsBefore d es span (before ++ o ∷ []) (front ++ a ∷ [])
  tied front a joined differ same (inl below) low =
      inr (cost_is before o ∙ (same ∙ sym (cost_is front a)), lower_last before front o a below)
  tied front a joined differ same (inr (inl equal)) low =
      by_best (last.best.first front (subst (λ x. IsPath es span.begin (entry es x).begin front) (sym equal) joined) apart)
    where
      apart : front ≢ before
      apart one =
          differ (ap (λ x. x ++ a ∷ []) one ∙ ap (λ x. before ++ x ∷ []) (sym equal))

      same_through : cost_through d es span before o ≡ cost_through d es span front o
      same_through = same ∙ ap (λ x. cost_through d es span front x) (sym equal)

      by_best : IsBefore d es (span_before es span o) before front → IsBefore d es span (before ++ o ∷ []) (front ++ a ∷ [])
      by_best (inl less) = absurd (let e = same_through in omega (arith, ints, less, e))
      by_best (inr tie) =
          inr (cost_is before o ∙ (same ∙ sym (cost_is front a)), subst (λ x. IsLowerFromLast (before ++ o ∷ []) (front ++ x ∷ [])) equal (lower_front before front o tie.1))
  tied front a joined differ same (inr (inr above)) low = absurd (omega arith)

  -- it is before each other path with a last entry
  before_other : (front : List ℕ) (a : ℕ) (p : List ℕ) → IsPath es span.begin (entry es a).begin front → front ++ a ∷ [] ≢ before ++ o ∷ [] → path_cost d es (span_before es span a) p ≤ℤ path_cost d es (span_before es span a) front → IsNotAfter (cost_through d es span before o) o (cost_through d es span p a) a → IsBefore d es span (before ++ o ∷ []) (front ++ a ∷ [])
  before_other front a p joined differ low (inl less) =
      let e = cost_is before o in
      let f = cost_is front a in
      inl (omega (arith, ints, less, low, e, f))
  before_other front a p joined differ low (inr tie) =
      by_cost (number_cases (cost_through d es span before o) (cost_through d es span front a))
    where
      by_cost : (cost_through d es span before o <ℤ cost_through d es span front a) ⊎ ((cost_through d es span before o ≡ cost_through d es span front a) ⊎ (cost_through d es span front a <ℤ cost_through d es span before o)) → IsBefore d es span (before ++ o ∷ []) (front ++ a ∷ [])
      by_cost (inl less) =
          let e = cost_is before o in
          let f = cost_is front a in
          inl (omega (arith, ints, less, e, f))
      by_cost (inr (inl same)) = tied front a joined differ same (ordinal_cases o a) tie.1
      by_cost (inr (inr more)) = let e = tie.0 in absurd (omega (arith, ints, low, more, e))

  IsBest-last : span.begin < span.end → IsBest d es span (before ++ o ∷ [])
  IsBest-last ahead =
      record { joined = joined; first = λ q over differ. by_last q over differ (last_cases q) }
    where
      joined : IsPathOver es span (before ++ o ∷ [])
      joined =
          subst (λ x. IsPath es span.begin x (before ++ o ∷ [])) last.ends (IsPath-push es span.begin (entry es o).begin before o last.best.joined last.inside refl)

      by_last : (q : List ℕ) → IsPathOver es span q → q ≢ before ++ o ∷ [] → (q ≡ []) ⊎ HasLast q → IsBefore d es span (before ++ o ∷ []) q
      by_last q over differ (inl none) =
          let e : span.begin ≡ span.end = subst (λ x. IsPath es span.begin span.end x) none over in
          absurd (omega (arith, e, ahead))
      by_last q over differ (inr r) =
          let front = r.0 in
          let a = r.1 in
          let way = IsPath-front es span.begin span.end front a (subst (λ x. IsPath es span.begin span.end x) r.2 over) in
          let first = IsBest-exists d es (span_before es span a) forward front way.0 in
          let low = IsBest-le d es (span_before es span a) first.0 front first.1 way.0 in
          let apart : front ++ a ∷ [] ≢ before ++ o ∷ [] = λ same. differ (r.2 ∙ same) in
          subst (λ x. IsBefore d es span (before ++ o ∷ []) x) (sym r.2) (before_other front a first.0 way.0 apart low (last.least a first.0 way.1 way.2 first.1))

pub IsBest-push : (d : DataLists) (l : Lattice) (span : Span) (before : List ℕ) (o : ℕ) → IsWellFormed d l → span.begin < span.end → IsBestLast d l.entries span before o → IsBest d l.entries span (before ++ o ∷ [])
IsBest-push d l span before o well ahead last =
    IsBest-last d l.entries (AreForward-from_well d l well) span before o last ahead

-- the best list before an entry gives the entry's least cost
pub IsLeastCost-from_best : (d : DataLists) (es : List Entry) (span : Span) (before : List ℕ) (o : ℕ) → IsBest d es (span_before es span o) before → IsLeastCost d es span o (cost_to d es span before o)
IsLeastCost-from_best d es span before o best =
    record { reached = (before, best.joined, refl); least = λ p joined. (let low = IsBest-le d es (span_before es span o) before p best joined in omega (arith, ints, low)) }

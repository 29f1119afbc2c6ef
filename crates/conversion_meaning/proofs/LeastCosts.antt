-- Least costs and the best path make a certificate.
use Rattle.std.proofs.Common.{◌≡◌, refl, sym, ap, ◌∙◌, subst, ℕ, ◌<◌, inl, inr, List, [], ◌∷◌, ◌++◌, Some, None, length, arith}
use Rattle.std.specs.Prelude.{◌≢◌, ◌+ℤ◌, ◌≤ℤ◌, slice_index}
use Rattle.std.specs.List.{range_with_len}
use Rattle.std.proofs.lemmas.Int.{ints}
use Rattle.mz_base.specs.Data.{DataLists, connection}
use Rattle.mz_base.specs.declared.lattice.Entry.{Entry}
use Rattle.mz_base.specs.declared.lattice.Span.{Span}
use Rattle.conversion_meaning.specs.Best.{IsBest}
use Rattle.conversion_meaning.specs.Certificates.{Claim, AreMet, IsCertificate, entry_in, potential}
use Rattle.conversion_meaning.specs.Lattices.{entry}
use Rattle.conversion_meaning.specs.Order.{IsBefore}
use Rattle.conversion_meaning.specs.Paths.{IsPath, IsPathOver, cost_between, path_cost}
use Rattle.conversion_meaning.specs.Potentials.{is_in, ordinals_in, AreLeastCosts}
use Rattle.conversion_meaning.proofs.Lists.{Among-get_or, from_filter, from_range}
use Rattle.conversion_meaning.proofs.Ordered.{order_cases, not_before_back}

-- an entry that begins where a path ends goes on with it
pub IsPath-push : (es : List Entry) (from to : ℕ) (path : List ℕ) (o : ℕ) → IsPath es from to path → o < length es → (entry es o).begin ≡ to → IsPath es from (entry es o).end (path ++ o ∷ [])
IsPath-push es from to [] o joined inside begins = (inside, begins ∙ sym joined, refl)
IsPath-push es from to (x ∷ path) o joined inside begins =
    (joined.0, joined.1, IsPath-push es (entry es x).end to path o joined.2 inside begins)

-- the cost of a path with one entry more
pub cost_between-push : (d : DataLists) (es : List Entry) (left right : ℕ) (path : List ℕ) (o : ℕ) → cost_between d es left right (path ++ o ∷ []) ≡ (cost_between d es left (entry es o).lid path +ℤ (entry es o).cost) +ℤ connection d (entry es o).rid right
cost_between-push d es left right [] o = refl
cost_between-push d es left right (x ∷ path) o =
    let rest = cost_between-push d es (entry es x).rid right path o in omega (arith, ints, rest)

-- an ordinal of the span is that of an entry inside it
pub inside_at : (es : List Entry) (span : Span) (place : ℕ) → place < length (ordinals_in es span) → slice_index (ordinals_in es span) place < length es
unfolding ordinals_in
inside_at es span place low =
    let r = from_filter (λ o. is_in span (entry es o)) (slice_index (ordinals_in es span) place) (range_with_len 0 (length es)) (Among-get_or (ordinals_in es span) place 0 low) in
    let inside = from_range 0 (length es) (slice_index (ordinals_in es span) place) r.0 in
    omega (arith, inside.1)

-- what is before costs no more
pub IsBefore-le : (d : DataLists) (es : List Entry) (span : Span) (p q : List ℕ) → IsBefore d es span p q → path_cost d es span p ≤ℤ path_cost d es span q
IsBefore-le d es span p q (inl less) = omega (arith, ints)
IsBefore-le d es span p q (inr tie) = omega (arith, ints, tie.0)

-- no path costs less than the best
pub IsBest-le : (d : DataLists) (es : List Entry) (span : Span) (p q : List ℕ) → IsBest d es span p → IsPathOver es span q → path_cost d es span p ≤ℤ path_cost d es span q
IsBest-le d es span p q best joined =
    elim (order_cases d es span p q) [ inl same ↦ (let e : path_cost d es span p ≡ path_cost d es span q = ap (path_cost d es span) same in omega (arith, ints, e)) | inr (inl first) ↦ IsBefore-le d es span p q first | inr (inr later) ↦ IsBefore-le d es span p q (best.first q joined (apart q later)) ]
  where
    apart : (q : List ℕ) → IsBefore d es span q p → q ≢ p
    apart q later same =
        let itself : IsBefore d es span p p = subst (λ x. IsBefore d es span x p) same later in
        not_before_back d es span p p itself itself

module _ (c : Claim) (costs : AreLeastCosts c.lists c.entries c.span c.potentials) where
  -- a list that ends with the entry of this place, and costs its potential
  abbrev EndsWith : ℕ → Type 0
  EndsWith place =
      (path : List ℕ) × IsPath c.entries c.span.begin (entry_in c place).end path × ((right : ℕ) → cost_between c.lists c.entries c.span.left right path ≡ potential c place +ℤ connection c.lists (entry_in c place).rid right)

  ends_with : (place : ℕ) → place < length (ordinals_in c.entries c.span) → EndsWith place
  ends_with place low =
      let o = slice_index (ordinals_in c.entries c.span) place in
      let least = costs.each place (omega (arith, costs.count)) in
      let before = least.reached in
      let inside = inside_at c.entries c.span place low in
      let joined = IsPath-push c.entries c.span.begin (entry c.entries o).begin before.0 o before.1 inside refl in
      (before.0 ++ o ∷ [], joined, λ right. (let e = cost_between-push c.lists c.entries c.span.left right before.0 o in let f = before.2 in omega (arith, ints, e, f)))

  AreMet-from_least : c.span.begin < c.span.end → IsBest c.lists c.entries c.span c.path → c.total ≡ path_cost c.lists c.entries c.span c.path → AreMet c
  AreMet-from_least forward best sum None None edge = absurd (omega (arith, edge.touch))
  AreMet-from_least forward best sum None (Some j) edge =
      let least = costs.each j (omega (arith, costs.count, edge.target_is)) in
      let here = least.least [] edge.touch in
      omega (arith, ints, here)
  AreMet-from_least forward best sum (Some i) None edge =
      let way = ends_with i edge.source_is in
      let over : IsPathOver c.entries c.span way.0 = subst (λ x. IsPath c.entries c.span.begin x way.0) edge.touch way.1 in
      let low = IsBest-le c.lists c.entries c.span c.path way.0 best over in
      let e = way.2 c.span.right in
      omega (arith, ints, low, e, sum)
  AreMet-from_least forward best sum (Some i) (Some j) edge =
      let way = ends_with i edge.source_is in
      let least = costs.each j (omega (arith, costs.count, edge.target_is)) in
      let here = least.least way.0 (subst (λ x. IsPath c.entries c.span.begin x way.0) edge.touch way.1) in
      let e = way.2 (entry_in c j).lid in
      omega (arith, ints, here, e)

-- least costs, the best path and its cost are a certificate
pub IsCertificate-from_least : (c : Claim) → c.span.begin < c.span.end → AreLeastCosts c.lists c.entries c.span c.potentials → IsBest c.lists c.entries c.span c.path → c.total ≡ path_cost c.lists c.entries c.span c.path → IsCertificate c
IsCertificate-from_least c forward costs best sum =
    record { count = costs.count; joined = best.joined; edges = AreMet-from_least c costs forward best sum; sum = sum }

-- A claim has one verdict.
use Rattle.std.proofs.Common.{◌≡◌, refl, sym, ap, ◌∙◌, subst, ℕ, zero, suc, ◌<◌, ◌≤◌, ◌⊎◌, inl, inr, List, [], ◌∷◌, Option, Some, None, length, take, arith}
use Rattle.std.specs.Prelude.{slice_index}
use Rattle.std.proofs.lemmas.Int.{ints}
use Rattle.std.proofs.lemmas.List.{take_all}
use Rattle.mz_base.specs.declared.lattice.Entry.{Entry}
use Rattle.mz_base.specs.declared.lattice.Span.{Span}
use Rattle.mz_base.specs.declared.status.CertFault.{CertFault}
use Rattle.mz_base.specs.declared.status.CertFault.TheVariants as fault
use Rattle.conversion_meaning.specs.Certificates.{Claim, IsCertificate, IsSide, AreMet}
use Rattle.conversion_meaning.specs.Lattices.{entry}
use Rattle.conversion_meaning.specs.Paths.{IsPath, IsPathOver}
use Rattle.conversion_meaning.specs.Verdicts.{BreaksAt, IsEarlier, IsFirstUnmet, IsFault, target_rank, source_rank}

-- where a longer front of the list is a path too, the next entry begins where the shorter one ends
goes_on : (es : List Entry) (from here to : ℕ) (path : List ℕ) (k m : ℕ) → IsPath es from here (take k path) → IsPath es from to (take m path) → k < m → k < length path → (slice_index path k < length es) × ((entry es (slice_index path k)).begin ≡ here)
goes_on es from here to [] k m short long below inside = absurd (omega arith)
goes_on es from here to (o ∷ path) k zero short long below inside = absurd (omega arith)
goes_on es from here to (o ∷ path) zero (suc m) short long below inside = (long.0, long.1 ∙ short)
goes_on es from here to (o ∷ path) (suc k) (suc m) short long below inside =
    goes_on es (entry es o).end here to path k m short.2 long.2 (omega arith) (omega arith)

-- a path ends at one position
one_end : (es : List Entry) (from a b : ℕ) (path : List ℕ) → IsPath es from a path → IsPath es from b path → a ≡ b
one_end es from a b [] first second = sym first ∙ second
one_end es from a b (o ∷ path) first second = one_end es (entry es o).end a b path first.2 second.2

module _ (es : List Entry) (span : Span) (path : List ℕ) where
  -- a path over the span does not break
  not_broken : (place : ℕ) → IsPathOver es span path → ¬ (BreaksAt es span path place)
  not_broken place joined breaks = by_place (cases place (length path))
    where
      cases : (a b : ℕ) → (a < b) ⊎ (b ≤ a)
      cases a b = grind arith

      by_place : (place < length path) ⊎ (length path ≤ place) → ⊥
      by_place (inl inside) =
          let all : take (length path) path ≡ path = take_all (length path) path (omega arith) in
          let r = goes_on es span.begin breaks.here span.end path place (length path) breaks.joined (subst (λ p. IsPath es span.begin span.end p) (sym all) joined) inside inside in
          breaks.stops.next inside r.0 r.1
      by_place (inr past) =
          let all : take place path ≡ path = take_all place path past in
          let over = subst (λ p. IsPath es span.begin breaks.here p) all breaks.joined in
          let last : length path ≡ place = omega (arith, breaks.within) in
          breaks.stops.over last (one_end es span.begin breaks.here span.end path over joined)

  no_later_break : (k m : ℕ) → k < m → BreaksAt es span path k → ¬ (BreaksAt es span path m)
  no_later_break k m below first second =
      let inside : k < length path = omega (arith, second.within) in
      let r = goes_on es span.begin first.here second.here path k m first.joined second.joined below inside in
      first.stops.next inside r.0 r.1

  -- it breaks at one place
  one_break : (k m : ℕ) → BreaksAt es span path k → BreaksAt es span path m → k ≡ m
  one_break k m first second = by_order (order k m)
    where
      order : (a b : ℕ) → (a < b) ⊎ ((a ≡ b) ⊎ (b < a))
      order a b = grind arith

      by_order : (k < m) ⊎ ((k ≡ m) ⊎ (m < k)) → k ≡ m
      by_order (inl less) = absurd (no_later_break k m less first second)
      by_order (inr (inl same)) = same
      by_order (inr (inr more)) = absurd (no_later_break m k more second first)

module _ (c : Claim) where
  same_target : (a b : Option ℕ) → IsSide c a → IsSide c b → target_rank c a ≡ target_rank c b → a ≡ b
  same_target None None p q same = refl
  same_target None (Some j) p q same = absurd (omega (arith, q, same))
  same_target (Some i) None p q same = absurd (omega (arith, p, same))
  same_target (Some i) (Some j) p q same = ap Some same

  same_source : (a b : Option ℕ) → source_rank a ≡ source_rank b → a ≡ b
  same_source None None same = refl
  same_source None (Some j) same = absurd (omega (arith, same))
  same_source (Some i) None same = absurd (omega (arith, same))
  same_source (Some i) (Some j) same = ap Some (omega (arith, same))

  met_not_unmet : (source target : Option ℕ) → AreMet c → ¬ (IsFirstUnmet c source target)
  met_not_unmet source target met first =
      let low = met source target first.edge in
      let high = first.unmet in
      omega (arith, ints, low, high)

  not_earlier : (s t u v : Option ℕ) → IsFirstUnmet c s t → IsFirstUnmet c u v → ¬ (IsEarlier c s t u v)
  not_earlier s t u v first second earlier =
      let low = second.earlier s t first.edge earlier in
      let high = first.unmet in
      omega (arith, ints, low, high)

  -- one edge is the first that is not met
  one_first : (s t u v : Option ℕ) → IsFirstUnmet c s t → IsFirstUnmet c u v → (s ≡ u) × (t ≡ v)
  one_first s t u v first second =
      by_target (order (target_rank c t) (target_rank c v)) (order (source_rank s) (source_rank u))
    where
      order : (a b : ℕ) → (a < b) ⊎ ((a ≡ b) ⊎ (b < a))
      order a b = grind arith

      by_target : (target_rank c t < target_rank c v) ⊎ ((target_rank c t ≡ target_rank c v) ⊎ (target_rank c v < target_rank c t)) → (source_rank s < source_rank u) ⊎ ((source_rank s ≡ source_rank u) ⊎ (source_rank u < source_rank s)) → (s ≡ u) × (t ≡ v)
      by_target (inl less) q = absurd (not_earlier s t u v first second (inl less))
      by_target (inr (inr more)) q = absurd (not_earlier u v s t second first (inl more))
      by_target (inr (inl same)) (inl less) =
          absurd (not_earlier s t u v first second (inr (same, less)))
      by_target (inr (inl same)) (inr (inr more)) =
          absurd (not_earlier u v s t second first (inr (sym same, more)))
      by_target (inr (inl same)) (inr (inl equal)) =
          (same_source s u equal, same_target t v first.edge.target_is second.edge.target_is same)

  -- a certificate has no fault
  pub no_fault : (f : CertFault) → IsCertificate c → ¬ (IsFault c f)
  no_fault (fault.Text line) is has = has
  no_fault (fault.Length wanted found) is has =
      has.differ (has.wanted_is ∙ (sym is.count ∙ sym has.found_is))
  no_fault (fault.Path place) is has =
      not_broken c.entries c.span c.path place is.joined has.breaks
  no_fault (fault.Edge source target) is has = met_not_unmet source target is.edges has.first
  no_fault (fault.Total said found) is has =
      has.differ (has.said_is ∙ (is.sum ∙ sym has.found_is))

  -- a claim has one fault at most
  pub one_fault : (f g : CertFault) → IsFault c f → IsFault c g → f ≡ g
  one_fault (fault.Text line) g a b = absurd a
  one_fault f (fault.Text line) a b = absurd b
  one_fault (fault.Length w n) (fault.Length x m) a b =
      let e : w ≡ x = a.wanted_is ∙ sym b.wanted_is in
      let h : n ≡ m = a.found_is ∙ sym b.found_is in
      cc
  one_fault (fault.Length w n) (fault.Path place) a b =
      absurd (a.differ (a.wanted_is ∙ (sym b.count ∙ sym a.found_is)))
  one_fault (fault.Length w n) (fault.Edge source target) a b =
      absurd (a.differ (a.wanted_is ∙ (sym b.count ∙ sym a.found_is)))
  one_fault (fault.Length w n) (fault.Total said found) a b =
      absurd (a.differ (a.wanted_is ∙ (sym b.count ∙ sym a.found_is)))
  one_fault (fault.Path k) (fault.Length w n) a b =
      absurd (b.differ (b.wanted_is ∙ (sym a.count ∙ sym b.found_is)))
  one_fault (fault.Path k) (fault.Path m) a b =
      ap fault.Path (one_break c.entries c.span c.path k m a.breaks b.breaks)
  one_fault (fault.Path k) (fault.Edge source target) a b =
      absurd (not_broken c.entries c.span c.path k b.joined a.breaks)
  one_fault (fault.Path k) (fault.Total said found) a b =
      absurd (not_broken c.entries c.span c.path k b.joined a.breaks)
  one_fault (fault.Edge s t) (fault.Length w n) a b =
      absurd (b.differ (b.wanted_is ∙ (sym a.count ∙ sym b.found_is)))
  one_fault (fault.Edge s t) (fault.Path m) a b =
      absurd (not_broken c.entries c.span c.path m a.joined b.breaks)
  one_fault (fault.Edge s t) (fault.Edge u v) a b =
      let r = one_first s t u v a.first b.first in
      let e : s ≡ u = r.0 in
      let h : t ≡ v = r.1 in
      cc
  one_fault (fault.Edge s t) (fault.Total said found) a b =
      absurd (met_not_unmet s t b.edges a.first)
  one_fault (fault.Total said found) (fault.Length w n) a b =
      absurd (b.differ (b.wanted_is ∙ (sym a.count ∙ sym b.found_is)))
  one_fault (fault.Total said found) (fault.Path m) a b =
      absurd (not_broken c.entries c.span c.path m a.joined b.breaks)
  one_fault (fault.Total said found) (fault.Edge u v) a b =
      absurd (met_not_unmet u v a.edges b.first)
  one_fault (fault.Total said found) (fault.Total x y) a b =
      let e : said ≡ x = a.said_is ∙ sym b.said_is in
      let h : found ≡ y = a.found_is ∙ sym b.found_is in
      cc

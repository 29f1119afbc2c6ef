-- What the tests by rank say of a claim on a whole key.
use Rattle.std.proofs.Common.{◌≡◌, refl, sym, ap, subst, ◌∙◌, ℕ, ◌+◌, ◌<◌, ◌≤◌, zero-add, ◌⊎◌, inl, inr, List, length, Option, Some, None, arith}
use Rattle.std.specs.Prelude.{ℤ, pos, slice_index}
use Rattle.std.specs.List.{range_with_len}
use Rattle.std.proofs.lemmas.List.FromFn.{get_or-range_with_len, length-range_with_len}
use Rattle.mz_base.specs.Data.{DataLists}
use Rattle.mz_base.specs.declared.lattice.Entry.{Entry}
use Rattle.mz_base.specs.declared.lattice.Span.{Span}
use Rattle.conversion_meaning.specs.Certificates.{Claim, IsEdge, IsMet, IsSide, AreMet, count_of, entry_in, source_end, source_rid, source_potential, target_begin, target_lid, target_cost, target_potential}
use Rattle.conversion_meaning.specs.Lattices.{entry}
use Rattle.conversion_meaning.specs.Potentials.{ordinals_in}
use Rattle.conversion_meaning.specs.Verdicts.{IsEarlier, IsFirstUnmet, source_rank, target_rank}
use Rattle.cert_check.specs.declared.edge.Edge.{Edge}
use Rattle.cert_check.specs.declared.edge.Source.{Source}
use Rattle.cert_check.specs.declared.edge.Target.{Target}
use Rattle.cert_check.specs.Claims.{claimed, IsEnd}
use Rattle.cert_check.specs.Edges.{AreMetInto, AreMetTo, IsFirstEdge, IsFirstInto, IsMetBy, IsUnmetBy, ordinal_at, source_at, target_at}
use Rattle.cert_check.proofs.TargetLemmas.{ordinal_at-end, ordinal_at-entry, target_at-end, target_at-entry}

split : (a b : ℕ) → (a < b) ⊎ (b ≤ a)
split a b = grind arith

-- a source and a target of a claim
abbrev pub source_in : Claim → Option ℕ → Source
source_in c side = record { rid = source_rid c side; potential = source_potential c side }

abbrev pub target_in : Claim → Option ℕ → Target
target_in c side =
    record { begin = target_begin c side; lid = target_lid c side; cost = target_cost c side; potential = target_potential c side }

module _ (d : DataLists) (es : List Entry) (span : Span) (path : List ℕ) (potentials : List ℤ) (end : Target) (all : ordinals_in es span ≡ range_with_len 0 (length es)) (last : IsEnd d span end) where
  pub count : count_of (claimed d es span path potentials end) ≡ length es
  count = ap length all ∙ length-range_with_len 0 (length es)

  place_is : (place : ℕ) → place < length es → entry_in (claimed d es span path potentials end) place ≡ entry es place
  place_is place inside =
      ap (entry es) (ap (λ os. slice_index os place) all ∙ (get_or-range_with_len 0 (length es) place 0 inside ∙ zero-add place))

  rank_inside : (target : Option ℕ) → IsSide (claimed d es span path potentials end) target → target_rank (claimed d es span path potentials end) target < length es + 1
  rank_inside None is = omega (arith, count)
  rank_inside (Some place) is = omega (arith, is, count)

  target_is : (target : Option ℕ) → IsSide (claimed d es span path potentials end) target → target_at es potentials end (target_rank (claimed d es span path potentials end) target) ≡ target_in (claimed d es span path potentials end) target
  target_is None is =
      let e = target_at-end es potentials end (count_of (claimed d es span path potentials end)) (omega (arith, count)) in
      e ∙ ends_as end last.begins last.right last.free
    where
      ends_as : (t : Target) → t.begin ≡ span.end → t.lid ≡ span.right → t.cost ≡ pos 0 → t ≡ record { begin = span.end; lid = span.right; cost = pos 0; potential = t.potential }
      ends_as t begins right free =
          ap (λ z. record { begin = t.begin; lid = t.lid; cost = z; potential = t.potential }) free ∙ (ap (λ n. record { begin = t.begin; lid = n; cost = pos 0; potential = t.potential }) right ∙ ap (λ n. record { begin = n; lid = span.right; cost = pos 0; potential = t.potential }) begins)
  target_is (Some place) is =
      let inside : place < length es = omega (arith, is, count) in
      let e = target_at-entry es potentials end place inside in
      e ∙ ap (λ (x : Entry). record { begin = x.begin; lid = x.lid; cost = x.cost; potential = target_potential (claimed d es span path potentials end) (Some place) }) (sym (place_is place inside))

  source_is : (place : ℕ) → place < length es → source_in (claimed d es span path potentials end) (Some place) ≡ source_at es potentials place
  source_is place inside =
      ap (λ (x : Entry). record { rid = x.rid; potential = source_potential (claimed d es span path potentials end) (Some place) }) (place_is place inside)

  source_ends : (place : ℕ) → place < length es → source_end (claimed d es span path potentials end) (Some place) ≡ (entry es place).end
  source_ends place inside = ap (λ (x : Entry). x.end) (place_is place inside)

  -- where each source meets a target, the edges to it are met
  met_into : (source target : Option ℕ) → IsEdge (claimed d es span path potentials end) source target → AreMetInto d es span potentials (target_in (claimed d es span path potentials end) target) → IsMet (claimed d es span path potentials end) source target
  met_into None target edge met = met.first (sym edge.touch)
  met_into (Some place) target edge met =
      let inside : place < length es = omega (arith, edge.source_is, count) in
      let touch : (entry es place).end ≡ target_begin (claimed d es span path potentials end) target = sym (source_ends place inside) ∙ edge.touch in
      subst (λ (s : Source). IsMetBy d s (target_in (claimed d es span path potentials end) target)) (sym (source_is place inside)) (met.entries.each place inside (record { inside = inside; ends = touch }))

  -- where each target is met, each edge is
  pub all_met : AreMetTo d es span potentials end (length es + 1) → AreMet (claimed d es span path potentials end)
  all_met met source target edge =
      met_into source target edge (subst (λ (t : Target). AreMetInto d es span potentials t) (target_is target edge.target_is) (met.each (target_rank (claimed d es span path potentials end) target) (rank_inside target edge.target_is)))

  -- the edges to a target before the first that is not met are met
  met_before : (first source target : Option ℕ) → IsEdge (claimed d es span path potentials end) source target → IsFirstInto d es span potentials (target_in (claimed d es span path potentials end) target) first → source_rank source < source_rank first → IsMet (claimed d es span path potentials end) source target
  met_before None source target edge is below = absurd (omega arith)
  met_before (Some o) None target edge is below = is.0 (sym edge.touch)
  met_before (Some o) (Some place) target edge is below =
      let inside : place < length es = omega (arith, edge.source_is, count) in
      let touch : (entry es place).end ≡ target_begin (claimed d es span path potentials end) target = sym (source_ends place inside) ∙ edge.touch in
      subst (λ (s : Source). IsMetBy d s (target_in (claimed d es span path potentials end) target)) (sym (source_is place inside)) (is.1.lower.each place (omega arith) (record { inside = inside; ends = touch }))

  -- the first source that does not meet a target makes an edge, and it is not met
  first_edge : (first target : Option ℕ) → IsSide (claimed d es span path potentials end) target → IsFirstInto d es span potentials (target_in (claimed d es span path potentials end) target) first → IsEdge (claimed d es span path potentials end) first target
  first_edge None target side is = record { source_is = tt; target_is = side; touch = sym is.0 }
  first_edge (Some o) target side is =
      let inside : o < length es = is.1.touch.inside in
      record { source_is = omega (arith, inside, count); target_is = side; touch = source_ends o inside ∙ is.1.touch.ends }

  first_unmet : (first target : Option ℕ) → IsFirstInto d es span potentials (target_in (claimed d es span path potentials end) target) first → IsUnmetBy d (source_in (claimed d es span path potentials end) first) (target_in (claimed d es span path potentials end) target)
  first_unmet None target is = is.1
  first_unmet (Some o) target is =
      subst (λ (s : Source). IsUnmetBy d s (target_in (claimed d es span path potentials end) target)) (sym (source_is o is.1.touch.inside)) is.1.unmet

  rank_is : (rank : ℕ) → rank < length es + 1 → (IsSide (claimed d es span path potentials end) (ordinal_at (length es) rank)) × (target_rank (claimed d es span path potentials end) (ordinal_at (length es) rank) ≡ rank)
  rank_is rank within = by_cases (split rank (length es))
    where
      by_cases : (rank < length es) ⊎ (length es ≤ rank) → (IsSide (claimed d es span path potentials end) (ordinal_at (length es) rank)) × (target_rank (claimed d es span path potentials end) (ordinal_at (length es) rank) ≡ rank)
      by_cases (inl inside) =
          let e = ordinal_at-entry (length es) rank inside in
          let side : rank < count_of (claimed d es span path potentials end) = omega (arith, count) in
          rw e (side, refl)
      by_cases (inr past) =
          let e = ordinal_at-end (length es) rank past in
          let same : count_of (claimed d es span path potentials end) ≡ rank = omega (arith, count) in
          rw e (tt, same)

  -- the first edge by rank is the first that is not met
  pub first_is : (edge : Edge) → IsFirstEdge d es span potentials end edge → IsFirstUnmet (claimed d es span path potentials end) edge.from edge.to
  first_is edge is =
      record { edge = first_edge edge.from edge.to side into; unmet = first_unmet edge.from edge.to into; earlier = earlier }
    where
      ranked : (IsSide (claimed d es span path potentials end) edge.to) × (target_rank (claimed d es span path potentials end) edge.to ≡ is.rank)
      ranked =
          subst (λ to. (IsSide (claimed d es span path potentials end) to) × (target_rank (claimed d es span path potentials end) to ≡ is.rank)) (sym is.to_is) (rank_is is.rank is.within)

      side : IsSide (claimed d es span path potentials end) edge.to
      side = ranked.0

      at_rank : target_at es potentials end is.rank ≡ target_in (claimed d es span path potentials end) edge.to
      at_rank = ap (target_at es potentials end) (sym ranked.1) ∙ target_is edge.to side

      into : IsFirstInto d es span potentials (target_in (claimed d es span path potentials end) edge.to) edge.from
      into = subst (λ (t : Target). IsFirstInto d es span potentials t edge.from) at_rank is.from_is

      earlier : (source target : Option ℕ) → IsEdge (claimed d es span path potentials end) source target → IsEarlier (claimed d es span path potentials end) source target edge.from edge.to → IsMet (claimed d es span path potentials end) source target
      earlier source target other (inl less) =
          let below : target_rank (claimed d es span path potentials end) target < is.rank = omega (arith, less, ranked.1) in
          met_into source target other (subst (λ (t : Target). AreMetInto d es span potentials t) (target_is target other.target_is) (is.lower.each (target_rank (claimed d es span path potentials end) target) below))
      earlier source target other (inr (same, less)) =
          let one : target_in (claimed d es span path potentials end) edge.to ≡ target_in (claimed d es span path potentials end) target = sym (target_is edge.to side) ∙ (ap (target_at es potentials end) (sym same) ∙ target_is target other.target_is) in
          met_before edge.from source target other (subst (λ (t : Target). IsFirstInto d es span potentials t edge.from) one into) less

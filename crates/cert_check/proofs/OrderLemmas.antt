-- Sources in the order of ends.
use Rattle.std.proofs.Common.{◌≡◌, refl, sym, ap, subst, ◌∙◌, ℕ, ◌+◌, ◌<◌, ◌≤◌, ◌↔◌, Bool, true, false, IsTrue, ◌⊎◌, inl, inr, List, length, arith}
use Rattle.std.specs.Prelude.{ℤ, slice_index}
use Rattle.std.proofs.lemmas.Int.{by_lt_z}
use Rattle.mz_base.specs.Data.{DataLists}
use Rattle.mz_base.specs.declared.lattice.Entry.{Entry}
use Rattle.conversion_meaning.specs.Lattices.{IsByEnd, IsCursor, entry}
use Rattle.conversion_meaning.proofs.LatticeLemmas.{end_found}
use Rattle.cert_check.specs.declared.edge.Source.{Source}
use Rattle.cert_check.specs.declared.edge.Target.{Target}
use Rattle.cert_check.specs.Edges.{AreMetBelow, EndsAt, IsFirstSource, IsMetBy, IsUnmetBy, cost_by, source_at}

-- the entries between two places in the order of ends end where the target begins, and meet it
pub record AreMetBetween (d : DataLists) (es : List Entry) (by_end : List ℕ) (potentials : List ℤ) (target : Target) (low high : ℕ) : Type 0 where
  pub ends : (k : ℕ) → low ≤ k → k < high → (entry es (slice_index by_end k)).end ≡ target.begin
  pub met : (k : ℕ) → low ≤ k → k < high → IsMetBy d (source_at es potentials (slice_index by_end k)) target

order : (a b : ℕ) → (a < b) ⊎ ((a ≡ b) ⊎ (b < a))
order a b = grind arith

module _ (d : DataLists) (es : List Entry) (by_end : List ℕ) (potentials : List ℤ) (target : Target) (low high : ℕ) (is : IsByEnd es by_end) (at : IsCursor es by_end target.begin low) (between : AreMetBetween d es by_end potentials target low high) where
  -- an entry that touches the target and stands before the higher place meets it
  met_at : (o k : ℕ) → low ≤ k → k < high → slice_index by_end k ≡ o → IsMetBy d (source_at es potentials o) target
  met_at o k above below read =
      subst (λ x. IsMetBy d (source_at es potentials x) target) read (between.met k above below)

  -- where the entry at the higher place does not end there, or there is none, each entry meets the target
  pub met_below : (length by_end ≤ high) ⊎ (target.begin < (entry es (slice_index by_end high)).end) → AreMetBelow d es potentials target (length es)
  met_below past = record { each = λ o inside ends. found o ends (end_found es by_end target.begin low o is at ends.inside ends.ends) }
    where
      found : (o : ℕ) → EndsAt es target.begin o → (k : ℕ) × (low ≤ k) × (k < length by_end) × (slice_index by_end k ≡ o) → IsMetBy d (source_at es potentials o) target
      found o ends (k, above, below, read) = by_order past (order k high)
        where
          same : (entry es (slice_index by_end k)).end ≡ target.begin
          same = ap (λ x. (entry es x).end) read ∙ ends.ends

          by_order : (length by_end ≤ high) ⊎ (target.begin < (entry es (slice_index by_end high)).end) → (k < high) ⊎ ((k ≡ high) ⊎ (high < k)) → IsMetBy d (source_at es potentials o) target
          by_order p (inl less) = met_at o k above less read
          by_order (inl none) (inr q) = absurd (omega arith)
          by_order (inr more) (inr (inl equal)) =
              let e = ap (λ x. (entry es (slice_index by_end x)).end) equal in
              let f = same in
              absurd (omega (arith, e, f, more))
          by_order (inr more) (inr (inr later)) =
              let e = (is.rising high k 0 later below).ends in
              let f = same in
              absurd (omega (arith, e, f, more))

  -- where the entry at the higher place touches the target and does not meet it, it is the first
  pub first_source : high < length by_end → low ≤ high → (entry es (slice_index by_end high)).end ≡ target.begin → IsUnmetBy d (source_at es potentials (slice_index by_end high)) target → IsFirstSource d es potentials target (slice_index by_end high)
  first_source inside above touch unmet =
      record { touch = record { inside = is.ordinals high 0 inside; ends = touch }; unmet = unmet; lower = record { each = λ o below ends. found o below ends (end_found es by_end target.begin low o is at ends.inside ends.ends) } }
    where
      found : (o : ℕ) → o < slice_index by_end high → EndsAt es target.begin o → (k : ℕ) × (low ≤ k) × (k < length by_end) × (slice_index by_end k ≡ o) → IsMetBy d (source_at es potentials o) target
      found o lower ends (k, above, below, read) = by_order (order k high)
        where
          by_order : (k < high) ⊎ ((k ≡ high) ⊎ (high < k)) → IsMetBy d (source_at es potentials o) target
          by_order (inl less) = met_at o k above less read
          by_order (inr (inl equal)) =
              let e = ap (slice_index by_end) equal in
              absurd (omega (arith, e, read, lower))
          by_order (inr (inr later)) =
              let same : (entry es (slice_index by_end high)).end ≡ (entry es (slice_index by_end k)).end = touch ∙ sym (ap (λ x. (entry es x).end) read ∙ ends.ends) in
              let e = (is.rising high k 0 later below).ties same in
              absurd (omega (arith, e, read, lower))

  -- where it touches the target and meets it, the entries up to it do
  pub between_next : (entry es (slice_index by_end high)).end ≡ target.begin → IsMetBy d (source_at es potentials (slice_index by_end high)) target → AreMetBetween d es by_end potentials target low (high + 1)
  between_next touch met =
      record { ends = λ k above below. ends_at k above (order k high) below; met = λ k above below. met_to k above (order k high) below }
    where
      ends_at : (k : ℕ) → low ≤ k → (k < high) ⊎ ((k ≡ high) ⊎ (high < k)) → k < high + 1 → (entry es (slice_index by_end k)).end ≡ target.begin
      ends_at k above (inl less) below = between.ends k above less
      ends_at k above (inr (inl equal)) below =
          subst (λ x. (entry es (slice_index by_end x)).end ≡ target.begin) (sym equal) touch
      ends_at k above (inr (inr more)) below = absurd (omega arith)

      met_to : (k : ℕ) → low ≤ k → (k < high) ⊎ ((k ≡ high) ⊎ (high < k)) → k < high + 1 → IsMetBy d (source_at es potentials (slice_index by_end k)) target
      met_to k above (inl less) below = between.met k above less
      met_to k above (inr (inl equal)) below =
          subst (λ x. IsMetBy d (source_at es potentials (slice_index by_end x)) target) (sym equal) met
      met_to k above (inr (inr more)) below = absurd (omega arith)

-- what a test says of the source that was read
module _ (d : DataLists) (read source : Source) (target : Target) where
  pub judged_met : (r : Bool) → (IsTrue r ↔ IsMetBy d read target) → read ≡ source → r ≡ true → IsMetBy d source target
  judged_met true told same is = subst (λ (s : Source). IsMetBy d s target) same (told.0 refl)
  judged_met false told same is = absurd (let clash : false ≡ true = is in cc)

  pub judged_unmet : (r : Bool) → (IsTrue r ↔ IsMetBy d read target) → read ≡ source → r ≡ false → IsUnmetBy d source target
  judged_unmet true told same is = absurd (let clash : true ≡ false = is in cc)
  judged_unmet false told same is =
      by_lt_z (cost_by d source target) target.potential (λ h. h) (λ h. let clash : false ≡ true = told.1 (subst (λ (s : Source). IsMetBy d s target) (sym same) h) in cc)

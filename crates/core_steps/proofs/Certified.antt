-- A certificate more among those that stand by client.
use Rattle.std.proofs.Common.{◌≡◌, refl, sym, ap, subst, ◌∙◌, ℕ, zero, suc, ◌<◌, ◌≤◌, Bool, true, false, List, [], ◌∷◌, ◌++◌, cond, filter, length, slice_index_or, arith, nat_le, nat_lt}
use Rattle.std.specs.List.{AllByRecursion, insert}
use Rattle.std.specs.List.Sorted.{IsPartitionPoint}
use Rattle.std.proofs.lemmas.Bool.{le-leb, le-ltb, leb-false, leb-true, lt-leb, lt-ltb}
use Rattle.mz_base.specs.declared.logs.CertEntry.{CertEntry}
use Rattle.run_meaning.specs.Plays.{certificates_with}
use Rattle.core_steps.specs.Certificates.{AreByClient}

module _ (made : CertEntry) where
  abbrev up_to : CertEntry → Bool
  up_to kept = nat_le kept.client made.client

  abbrev past : CertEntry → Bool
  past kept = nat_lt made.client kept.client

  -- ---- Where it goes

  -- behind one that is not of a later client
  goes_on : (first : CertEntry) (entries : List CertEntry) → first.client ≤ made.client → certificates_with (first ∷ entries) made ≡ first ∷ certificates_with entries made
  goes_on first entries low =
      ap (λ b. cond b (first ∷ filter up_to entries) (filter up_to entries) ++ made ∷ filter past (first ∷ entries)) (le-leb first.client made.client low) ∙ ap (λ b. (first ∷ filter up_to entries) ++ made ∷ cond b (first ∷ filter past entries) (filter past entries)) (le-ltb made.client first.client low)

  none_up_to : (entries : List CertEntry) → AllByRecursion (λ (entry : CertEntry). made.client < entry.client) entries → filter up_to entries ≡ []
  none_up_to [] all = refl
  none_up_to (first ∷ entries) all =
      ap (λ b. cond b (first ∷ filter up_to entries) (filter up_to entries)) (lt-leb first.client made.client all.0) ∙ none_up_to entries all.1

  all_past : (entries : List CertEntry) → AllByRecursion (λ (entry : CertEntry). made.client < entry.client) entries → filter past entries ≡ entries
  all_past [] all = refl
  all_past (first ∷ entries) all =
      ap (λ b. cond b (first ∷ filter past entries) (filter past entries)) (lt-ltb made.client first.client all.0) ∙ ap (λ rest. first ∷ rest) (all_past entries all.1)

  -- before those of later clients
  goes_first : (entries : List CertEntry) → AllByRecursion (λ (entry : CertEntry). made.client < entry.client) entries → certificates_with entries made ≡ made ∷ entries
  goes_first entries all =
      ap (λ front. front ++ made ∷ filter past entries) (none_up_to entries all) ∙ ap (λ rest. made ∷ rest) (all_past entries all)

  -- ---- At a place that parts them

  later : (entries : List CertEntry) → ((k : ℕ) (d : CertEntry) → k < length entries → up_to (slice_index_or entries k d) ≡ false) → AllByRecursion (λ (entry : CertEntry). made.client < entry.client) entries
  later [] fails = tt
  later (first ∷ entries) fails =
      (leb-false first.client made.client (fails 0 made (let there : 0 < length (first ∷ entries) = omega arith in there)), later entries (λ k d there. fails (suc k) d (let next : suc k < length (first ∷ entries) = omega (arith, there) in next)))

  pub inserted : (entries : List CertEntry) (place : ℕ) → IsPartitionPoint (λ kept. up_to kept ≡ true) (λ kept. up_to kept ≡ false) entries place → certificates_with entries made ≡ insert entries place made
  inserted [] zero parts = refl
  inserted [] (suc place) parts = refl
  inserted (first ∷ entries) zero parts =
      goes_first (first ∷ entries) (later (first ∷ entries) (λ k d there. parts.1 k d (let from : 0 ≤ k = omega arith in from) there))
  inserted (first ∷ entries) (suc place) parts =
      let low : first.client ≤ made.client = leb-true first.client made.client (parts.0 0 made (let from : 0 ≤ 0 = omega arith in from) (let there : 0 < suc place = omega arith in there)) in
      goes_on first entries low ∙ ap (λ rest. first ∷ rest) (inserted entries place (λ k d from to. parts.0 (suc k) d (let low : 0 ≤ suc k = omega arith in low) (let high : suc k < suc place = omega (arith, to) in high), λ k d from to. parts.1 (suc k) d (let low : suc place ≤ suc k = omega (arith, from) in low) (let high : suc k < length (first ∷ entries) = omega (arith, to) in high)))

  -- ---- They stand by client still

  all_cond : (client : ℕ) (b : Bool) (first : CertEntry) (rest more : List CertEntry) → client ≤ first.client → AllByRecursion (λ (entry : CertEntry). client ≤ entry.client) (rest ++ more) → AllByRecursion (λ (entry : CertEntry). client ≤ entry.client) (cond b (first ∷ rest) rest ++ more)
  all_cond client true first rest more at all = (at, all)
  all_cond client false first rest more at all = all

  all_cond-end : (client : ℕ) (b : Bool) (first : CertEntry) (rest : List CertEntry) → client ≤ first.client → AllByRecursion (λ (entry : CertEntry). client ≤ entry.client) rest → AllByRecursion (λ (entry : CertEntry). client ≤ entry.client) (cond b (first ∷ rest) rest)
  all_cond-end client true first rest at all = (at, all)
  all_cond-end client false first rest at all = all

  all_past_it : (client : ℕ) (entries : List CertEntry) → AllByRecursion (λ (entry : CertEntry). client ≤ entry.client) entries → AllByRecursion (λ (entry : CertEntry). client ≤ entry.client) (filter past entries)
  all_past_it client [] all = tt
  all_past_it client (first ∷ entries) all =
      all_cond-end client (past first) first (filter past entries) all.0 (all_past_it client entries all.1)

  all_up_to_it : (client : ℕ) (entries more : List CertEntry) → AllByRecursion (λ (entry : CertEntry). client ≤ entry.client) entries → AllByRecursion (λ (entry : CertEntry). client ≤ entry.client) more → AllByRecursion (λ (entry : CertEntry). client ≤ entry.client) (filter up_to entries ++ more)
  all_up_to_it client [] more all are = are
  all_up_to_it client (first ∷ entries) more all are =
      all_cond client (up_to first) first (filter up_to entries) more all.0 (all_up_to_it client entries more all.1 are)

  all_with : (client : ℕ) (entries : List CertEntry) → client ≤ made.client → AllByRecursion (λ (entry : CertEntry). client ≤ entry.client) entries → AllByRecursion (λ (entry : CertEntry). client ≤ entry.client) (certificates_with entries made)
  all_with client entries low all =
      all_up_to_it client entries (made ∷ filter past entries) all (low, all_past_it client entries all)

  above : (least : ℕ) (entries : List CertEntry) → made.client < least → AllByRecursion (λ (entry : CertEntry). least ≤ entry.client) entries → AllByRecursion (λ (entry : CertEntry). made.client < entry.client) entries
  above least [] high all = tt
  above least (first ∷ entries) high all =
      (let at : least ≤ first.client = all.0 in omega (arith, high, at), above least entries high all.1)

  not_above : (entries : List CertEntry) → AllByRecursion (λ (entry : CertEntry). made.client < entry.client) entries → AllByRecursion (λ (entry : CertEntry). made.client ≤ entry.client) entries
  not_above [] all = tt
  not_above (first ∷ entries) all =
      (let at : made.client < first.client = all.0 in omega (arith, at), not_above entries all.1)

  by_client_by : (first : CertEntry) (entries : List CertEntry) (b : Bool) → up_to first ≡ b → AreByClient (first ∷ entries) → AreByClient (certificates_with entries made) → AreByClient (certificates_with (first ∷ entries) made)
  by_client_by first entries true is are rest =
      let low : first.client ≤ made.client = leb-true first.client made.client is in
      subst AreByClient (sym (goes_on first entries low)) (all_with first.client entries low are.0, rest)
  by_client_by first entries false is are rest =
      let high : made.client < first.client = leb-false first.client made.client is in
      let all : AllByRecursion (λ (entry : CertEntry). made.client < entry.client) (first ∷ entries) = (high, above first.client entries high are.0) in
      subst AreByClient (sym (goes_first (first ∷ entries) all)) (not_above (first ∷ entries) all, are)

  -- they stand by client still
  pub by_client_with : (entries : List CertEntry) → AreByClient entries → AreByClient (certificates_with entries made)
  by_client_with [] are = (tt, tt)
  by_client_with (first ∷ entries) are =
      by_client_by first entries (up_to first) refl are (by_client_with entries are.1)

-- ---- What the search by client asks

at_least : (least : ℕ) (entries : List CertEntry) (k : ℕ) (d : CertEntry) → AllByRecursion (λ (entry : CertEntry). least ≤ entry.client) entries → k < length entries → least ≤ (slice_index_or entries k d).client
at_least least [] k d all there = absurd (omega (arith, there))
at_least least (first ∷ entries) zero d all there = all.0
at_least least (first ∷ entries) (suc k) d all there =
    at_least least entries k d all.1 (let before : k < length entries = omega (arith, there) in before)

pub rising : (entries : List CertEntry) → AreByClient entries → (i j : ℕ) (d : CertEntry) → i ≤ j → j < length entries → (slice_index_or entries i d).client ≤ (slice_index_or entries j d).client
rising [] are i j d low high = absurd (omega (arith, high))
rising (first ∷ entries) are zero zero d low high = omega arith
rising (first ∷ entries) are zero (suc j) d low high =
    at_least first.client entries j d are.0 (let there : j < length entries = omega (arith, high) in there)
rising (first ∷ entries) are (suc i) zero d low high = absurd (omega (arith, low))
rising (first ∷ entries) are (suc i) (suc j) d low high =
    rising entries are.1 i j d (let less : i ≤ j = omega (arith, low) in less) (let there : j < length entries = omega (arith, high) in there)

-- Least costs and the answer, as functions.
use Rattle.std.proofs.Common.{◌≡◌, refl, sym, ap, ◌∙◌, subst, ℕ, ◌-◌, ◌<◌, ◌≤◌, List, length, map, arith}
use Rattle.std.specs.Prelude.{ℤ, pos, slice_index, slice_index_or}
use Rattle.std.specs.List.{range_with_len}
use Rattle.std.proofs.lemmas.Bool.Decides.{nat_tests}
use Rattle.std.proofs.lemmas.Int.{ints}
use Rattle.std.proofs.lemmas.List.{ext_get_or, get_or-map, length-map}
use Rattle.mz_base.specs.Data.{DataLists, AreDataSound}
use Rattle.mz_base.specs.declared.lattice.Certificate.{Certificate}
use Rattle.mz_base.specs.declared.lattice.Entry.{Entry}
use Rattle.mz_base.specs.declared.lattice.Lattice.{Lattice}
use Rattle.mz_base.specs.declared.lattice.Span.{Span}
use Rattle.mz_base.specs.declared.user.UserRow.{UserRow}
use Rattle.conversion_meaning.specs.AnswerLaws.{IsFirstAnswer}
use Rattle.conversion_meaning.specs.Answers.{first_answer, certificate_over, least_cost, least_costs}
use Rattle.conversion_meaning.specs.InOrder.{best_path}
use Rattle.conversion_meaning.specs.Lattices.{IsLatticeOf, IsWellFormed, entry}
use Rattle.conversion_meaning.specs.Paths.{IsSpan, path_cost, whole}
use Rattle.conversion_meaning.specs.Potentials.{AreLeastCosts, IsLeastCost, is_in, ordinals_in}
use Rattle.conversion_meaning.specs.Steps.{span_before}
use Rattle.conversion_meaning.proofs.BestLemmas.{AreForward-from_well}
use Rattle.conversion_meaning.proofs.EntryLemmas.{IsWellFormed-from_entries}
use Rattle.conversion_meaning.proofs.InOrderLemmas.{IsBest-best_path, IsBest-first, IsBest-is_first}
use Rattle.conversion_meaning.proofs.Lists.{Among-get_or, from_filter, from_range}
use Rattle.conversion_meaning.proofs.PathLemmas.{path_of_characters}
use Rattle.conversion_meaning.proofs.Recurrence.{IsLeastCost-from_best}

-- an entry has one least cost
pub IsLeastCost-one : (d : DataLists) (es : List Entry) (span : Span) (o : ℕ) (a b : ℤ) → IsLeastCost d es span o a → IsLeastCost d es span o b → a ≡ b
IsLeastCost-one d es span o a b one other =
    let x = one.least other.reached.0 other.reached.1 in
    let y = other.least one.reached.0 one.reached.1 in
    let e = one.reached.2 in
    let f = other.reached.2 in
    omega (arith, ints, x, y, e, f)

module _ (d : DataLists) (l : Lattice) (span : Span) (well : IsWellFormed d l) (is : IsSpan d l span) where
  -- an entry of the span has the least cost that the best path before it gives
  pub IsLeastCost-least_cost : (o : ℕ) → o < length l.entries → span.begin ≤ (entry l.entries o).begin → (entry l.entries o).begin ≤ length l.key → IsLeastCost d l.entries span o (least_cost d l.entries span o)
  IsLeastCost-least_cost o inside low high =
      let some = path_of_characters l.entries (length l.key) well.characters ((entry l.entries o).begin - span.begin) span.begin (entry l.entries o).begin (omega (arith, low)) high in
      IsLeastCost-from_best d l.entries span (best_path d l.entries (span_before l.entries span o)) o (IsBest-first d l.entries (span_before l.entries span o) (AreForward-from_well d l well) some.0 some.1)

  at : (i : ℕ) → i < length (ordinals_in l.entries span) → IsLeastCost d l.entries span (slice_index (ordinals_in l.entries span) i) (least_cost d l.entries span (slice_index (ordinals_in l.entries span) i))
  unfolding ordinals_in
  at i low =
      let o = slice_index (ordinals_in l.entries span) i in
      let found = from_filter (λ x. is_in span (entry l.entries x)) o (range_with_len 0 (length l.entries)) (Among-get_or (ordinals_in l.entries span) i 0 low) in
      let inside = (from_range 0 (length l.entries) o found.0).1 in
      let begins : span.begin ≤ (entry l.entries o).begin = grind (arith, nat_tests, found.1) in
      let ends : (entry l.entries o).end ≤ span.end = grind (arith, nat_tests, found.1) in
      let within : o < length l.entries = omega (arith, inside) in
      let ahead = AreForward-from_well d l well o within in
      let last = is.inside in
      IsLeastCost-least_cost o within begins (omega (arith, ahead, ends, last))

  pub AreLeastCosts-least_costs : AreLeastCosts d l.entries span (least_costs d l.entries span)
  unfolding least_costs
  AreLeastCosts-least_costs = record { count = length-map os cost; each = each }
    where
      os : List ℕ
      os = ordinals_in l.entries span

      cost : ℕ → ℤ
      cost = least_cost d l.entries span

      each : (i : ℕ) → i < length (map cost os) → IsLeastCost d l.entries span (slice_index os i) (slice_index_or (map cost os) i (pos 0))
      each i low =
          let inside : i < length os = omega (arith, low, length-map os cost) in
          subst (λ c. IsLeastCost d l.entries span (slice_index os i) c) (sym (get_or-map cost os i 0 (pos 0) inside)) (at i inside)

  pub least_costs-one : (potentials : List ℤ) → AreLeastCosts d l.entries span potentials → potentials ≡ least_costs d l.entries span
  least_costs-one potentials are =
      let mine = AreLeastCosts-least_costs in
      ext_get_or (pos 0) potentials (least_costs d l.entries span) (are.count ∙ sym mine.count) (λ i low. IsLeastCost-one d l.entries span _ _ _ (are.each i low) (mine.each i (subst (λ n. i < n) (are.count ∙ sym mine.count) low)))

module _ (d : DataLists) (rows : List UserRow) (l : Lattice) (sound : AreDataSound d) (of : IsLatticeOf d rows l) where
  well : IsWellFormed d l
  well = IsWellFormed-from_entries d rows l sound of

  spans : IsSpan d l (whole l 0)
  spans =
      let some = of.key.some in
      let ids = sound.some_ids in
      record { forward = some; inside = omega arith; left = ids; right = ids }

  abbrev made : List ℕ → List ℕ → List ℤ → ℤ → Certificate
  made bounds path potentials total =
      record { bounds = bounds; path = path; potentials = potentials; total = total }

  answer_is : first_answer d rows l.key l.bounds ≡ certificate_over d l.entries (whole l 0) l.bounds
  unfolding first_answer
  answer_is = ap (λ es. certificate_over d es (whole l 0) l.bounds) (sym of.entries_are)

  pub IsFirstAnswer-first_answer : IsFirstAnswer d l (first_answer d rows l.key l.bounds)
  IsFirstAnswer-first_answer =
      subst (λ c. IsFirstAnswer d l c) (sym answer_is) (record {
        same_bounds = refl;
        best = IsBest-best_path d l (whole l 0) well spans;
        least = AreLeastCosts-least_costs d l (whole l 0) well spans;
        total_is = refl;
      })

  pub first_answer-one : (c : Certificate) → IsFirstAnswer d l c → c ≡ first_answer d rows l.key l.bounds
  first_answer-one c is =
      let path = IsBest-is_first d l.entries (whole l 0) (AreForward-from_well d l well) c.path is.best in
      let costs = least_costs-one d l (whole l 0) well spans c.potentials is.least in
      let total = is.total_is ∙ ap (path_cost d l.entries (whole l 0)) path in
      let is_made : c ≡ certificate_over d l.entries (whole l 0) l.bounds = same_parts c (certificate_over d l.entries (whole l 0) l.bounds) is.same_bounds path costs total in
      is_made ∙ sym answer_is
    where
      same_parts : (a b : Certificate) → a.bounds ≡ b.bounds → a.path ≡ b.path → a.potentials ≡ b.potentials → a.total ≡ b.total → a ≡ b
      same_parts a b bounds path costs total =
          ap (λ x. made x a.path a.potentials a.total) bounds ∙ (ap (λ x. made b.bounds x a.potentials a.total) path ∙ (ap (λ x. made b.bounds b.path x a.total) costs ∙ ap (λ x. made b.bounds b.path b.potentials x) total))

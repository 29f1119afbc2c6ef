-- Tests that compute whether a path of a small lattice is the best, and whether its potentials are a certificate.
use Rattle.std.proofs.Common.{◌≡◌, refl, sym, ap, ◌∙◌, subst, ℕ, Bool, true, false, not, ◌&&◌, ◌||◌, eqb, ltb, ◌⊎◌, inl, inr, List, [], ◌∷◌, map, Option, Some, None, length, arith}
use Rattle.std.specs.Prelude.{◌≢◌, ℤ, ◌<ℤ◌, int_lt, reverse}
use Rattle.std.specs.declared.cmp.Ordering.{Ordering}
use Rattle.std.specs.declared.cmp.Ordering.TheVariants.{Less, Equal, Greater}
use Rattle.std.specs.Cmp.Lexicographic.{slice_cmp, same_text}
use Rattle.std.specs.List.{list_all, range_with_len}
use Rattle.std.specs.Ordering.{nat_cmp, int_cmp, int_eq, is_eq, is_lt}
use Rattle.std.specs.Str.{bytes_eq}
use Rattle.std.proofs.lemmas.Bool.Decides.{nat_tests}
use Rattle.std.proofs.lemmas.Cmp.{by_ranked, int_ranked}
use Rattle.std.proofs.lemmas.Int.{ints}
use Rattle.mz_base.specs.Data.{DataLists}
use Rattle.mz_base.specs.declared.lattice.Entry.{Entry}
use Rattle.mz_base.specs.declared.lattice.Span.{Span}
use Rattle.conversion_meaning.specs.AllPaths.{all_paths}
use Rattle.conversion_meaning.specs.Best.{IsBest}
use Rattle.conversion_meaning.specs.Certificates.{Claim, IsSide, IsEdge, IsMet, AreMet, count_of, source_end, target_begin, target_potential, cost_along}
use Rattle.conversion_meaning.specs.Entries.{entries}
use Rattle.conversion_meaning.specs.Examples.{Worked, span_of}
use Rattle.conversion_meaning.specs.Order.{IsBefore}
use Rattle.conversion_meaning.specs.Paths.{IsPath, IsPathOver, path_cost}
use Rattle.conversion_meaning.specs.Lattices.{entry, no_entry}
use Rattle.conversion_meaning.specs.Verdicts.{IsEarlier, IsFirstUnmet, IsEdgeFault, IsTotalFault, source_rank, target_rank}
use Rattle.conversion_meaning.proofs.Duality.{AreForward}
use Rattle.conversion_meaning.proofs.Lists.{Among, Among-map, Among-range, Among-get_or}
use Rattle.conversion_meaning.proofs.PathLemmas.{Among-all_paths}

both : (a b : Bool) → (a && b) ≡ true → (a ≡ true) × (b ≡ true)
both true b h = (refl, h)
both false b h = absurd (let clash : false ≡ true = h in cc)

either : (a b : Bool) → (a || b) ≡ true → (a ≡ true) ⊎ (b ≡ true)
either true b h = inl refl
either false b h = inr h

negated : (a : Bool) → not a ≡ true → a ≡ false
negated true h = absurd (let clash : false ≡ true = h in cc)
negated false h = refl

-- what passes for all elements passes for each
pub at_each : {X : Type 0} (p : X → Bool) (xs : List X) (x : X) → list_all p xs ≡ true → Among x xs → p x ≡ true
at_each p [] x all h = absurd h
at_each p (y ∷ xs) x all (inl same) = ap p (sym same) ∙ (both (p y) (list_all p xs) all).0
at_each p (y ∷ xs) x all (inr h) = at_each p xs x (both (p y) (list_all p xs) all).1 h

same_number : (a b : ℤ) → int_eq a b ≡ true → a ≡ b
same_number a b passes =
    by_ranked (a <ℤ b) (a ≡ b) (b <ℤ a) (int_cmp a b) (int_ranked a b (int_cmp a b) refl) (λ less _. absurd (clash Less less refl)) (λ _ same. same) (λ more _. absurd (clash Greater more refl))
  where
    clash : (o : Ordering) → int_cmp a b ≡ o → is_eq o ≡ false → ⊥
    clash o is other =
        let e : is_eq o ≡ true = subst (λ (x : Ordering). is_eq x ≡ true) is passes in
        let wrong : true ≡ false = sym e ∙ other in
        cc

is_less : (o : Ordering) → is_lt o ≡ true → o ≡ Less
is_less Less h = refl
is_less Equal h = absurd (let clash : false ≡ true = h in cc)
is_less Greater h = absurd (let clash : false ≡ true = h in cc)

-- these ordinals are a path
abbrev pub is_path : List Entry → ℕ → ℕ → List ℕ → Bool
is_path es from to [] = eqb from to
is_path es from to (o ∷ path) =
    ltb o (length es) && (eqb (entry es o).begin from && is_path es (entry es o).end to path)

IsPath-by_test : (es : List Entry) (from to : ℕ) (path : List ℕ) → is_path es from to path ≡ true → IsPath es from to path
IsPath-by_test es from to [] passes = grind (arith, nat_tests)
IsPath-by_test es from to (o ∷ path) passes =
    let first = both (ltb o (length es)) (eqb (entry es o).begin from && is_path es (entry es o).end to path) passes in
    let second = both (eqb (entry es o).begin from) (is_path es (entry es o).end to path) first.1 in
    (grind (arith, nat_tests, first.0), grind (arith, nat_tests, second.0), IsPath-by_test es (entry es o).end to path second.1)

-- each entry begins before it ends
abbrev pub is_forward : List Entry → Bool
is_forward es = list_all (λ (e : Entry). ltb e.begin e.end) es

AreForward-by_test : (es : List Entry) → is_forward es ≡ true → AreForward es
AreForward-by_test es passes o inside =
    let here = at_each (λ (e : Entry). ltb e.begin e.end) es (entry es o) passes (Among-get_or es o no_entry inside) in
    grind (arith, nat_tests, here)

module _ (d : DataLists) (es : List Entry) (span : Span) (p : List ℕ) where
  -- q is the path p, or costs more, or as much and is not lower from the last
  abbrev pub is_up_to : List ℕ → Bool
  is_up_to q =
      bytes_eq q p || (int_lt (path_cost d es span p) (path_cost d es span q) || (int_eq (path_cost d es span p) (path_cost d es span q) && is_lt (slice_cmp nat_cmp (reverse p) (reverse q))))

  before_by_test : (q : List ℕ) → q ≢ p → is_up_to q ≡ true → IsBefore d es span p q
  before_by_test q differ passes =
      elim (either (bytes_eq q p) _ passes) [ inl same ↦ absurd (differ (same_text q p (sym same))) | inr other ↦ elim (either (int_lt (path_cost d es span p) (path_cost d es span q)) _ other) [ inl less ↦ inl (record { lt = grind (arith, nat_tests) }) | inr tie ↦ (let r = both (int_eq (path_cost d es span p) (path_cost d es span q)) _ tie in inr (same_number (path_cost d es span p) (path_cost d es span q) r.0, is_less (slice_cmp nat_cmp (reverse p) (reverse q)) r.1)) ] ]

  IsBest-by_test : AreForward es → IsPathOver es span p → list_all is_up_to (all_paths es span) ≡ true → IsBest d es span p
  IsBest-by_test forward joined passes =
      record { joined = joined; first = λ q over differ. before_by_test q differ (at_each is_up_to (all_paths es span) q passes (Among-all_paths es span q forward over)) }

module _ (c : Claim) where
  -- the ends, and the places of the entries
  abbrev pub sides : List (Option ℕ)
  sides = None ∷ map Some (range_with_len 0 (count_of c))

  Among-sides : (side : Option ℕ) → IsSide c side → Among side sides
  Among-sides None is = inl refl
  Among-sides (Some place) is =
      inr (Among-map Some place (range_with_len 0 (count_of c)) (Among-range 0 (count_of c) place (omega arith) (omega arith)))

  -- where they touch, the edge is met
  abbrev pub is_met : Option ℕ → Option ℕ → Bool
  is_met source target =
      not (eqb (source_end c source) (target_begin c target)) || not (int_lt (cost_along c source target) (target_potential c target))

  abbrev pub are_met : Bool
  are_met = list_all (λ source. list_all (is_met source) sides) sides

  AreMet-by_test : are_met ≡ true → AreMet c
  AreMet-by_test passes source target edge =
      let row = at_each (λ x. list_all (is_met x) sides) sides source passes (Among-sides source edge.source_is) in
      let here = at_each (is_met source) sides target row (Among-sides target edge.target_is) in
      elim (either (not (eqb (source_end c source) (target_begin c target))) _ here) [ inl apart ↦ absurd (let touch = edge.touch in grind (arith, nat_tests)) | inr met ↦ (let low = negated (int_lt (cost_along c source target) (target_potential c target)) met in grind (arith, ints)) ]

  abbrev is_before : Option ℕ → Option ℕ → Option ℕ → Option ℕ → Bool
  is_before source target other_source other_target =
      ltb (target_rank c target) (target_rank c other_target) || (eqb (target_rank c target) (target_rank c other_target) && ltb (source_rank source) (source_rank other_source))

  passes_before : (s t u v : Option ℕ) → IsEarlier c s t u v → is_before s t u v ≡ true
  passes_before s t u v (inl less) = grind (arith, nat_tests)
  passes_before s t u v (inr (same, less)) = grind (arith, nat_tests)

  -- each edge before this one is met
  abbrev pub are_met_before : Option ℕ → Option ℕ → Bool
  are_met_before u v =
      list_all (λ s. list_all (λ t. not (is_before s t u v) || is_met s t) sides) sides

  -- this edge touches, and is not met
  abbrev pub is_unmet : Option ℕ → Option ℕ → Bool
  is_unmet source target =
      eqb (source_end c source) (target_begin c target) && int_lt (cost_along c source target) (target_potential c target)

  IsMet-by_test : (s t : Option ℕ) → IsEdge c s t → is_met s t ≡ true → IsMet c s t
  IsMet-by_test s t edge passes =
      elim (either (not (eqb (source_end c s) (target_begin c t))) _ passes) [ inl apart ↦ absurd (let touch = edge.touch in grind (arith, nat_tests)) | inr met ↦ (let low = negated (int_lt (cost_along c s t) (target_potential c t)) met in grind (arith, ints)) ]

  pub IsFirstUnmet-by_tests : (u v : Option ℕ) → IsSide c u → IsSide c v → (is_unmet u v && are_met_before u v) ≡ true → IsFirstUnmet c u v
  IsFirstUnmet-by_tests u v u_is v_is passes =
      let a = both (is_unmet u v) (are_met_before u v) passes in
      let b = both (eqb (source_end c u) (target_begin c v)) (int_lt (cost_along c u v) (target_potential c v)) a.0 in
      record { edge = record { source_is = u_is; target_is = v_is; touch = grind (arith, nat_tests, b.0) }; unmet = record { lt = grind (arith, nat_tests, b.1) }; earlier = λ s t edge before. met a.1 s t edge before }
    where
      met : are_met_before u v ≡ true → (s t : Option ℕ) → IsEdge c s t → IsEarlier c s t u v → IsMet c s t
      met all s t edge before =
          let row = at_each (λ x. list_all (λ y. not (is_before x y u v) || is_met x y) sides) sides s all (Among-sides s edge.source_is) in
          let here = at_each (λ y. not (is_before s y u v) || is_met s y) sides t row (Among-sides t edge.target_is) in
          elim (either (not (is_before s t u v)) (is_met s t) here) [ inl later ↦ absurd (let f = negated (is_before s t u v) later in let g = passes_before s t u v before in let clash : true ≡ false = sym g ∙ f in cc) | inr passed ↦ IsMet-by_test s t edge passed ]

  -- the numbers are equal, and the ordinals are a path
  abbrev pub is_given : Bool
  is_given =
      eqb (length c.potentials) (count_of c) && is_path c.entries c.span.begin c.span.end c.path

  pub given_count : is_given ≡ true → length c.potentials ≡ count_of c
  given_count passes =
      let r = both (eqb (length c.potentials) (count_of c)) _ passes in
      grind (arith, nat_tests, r.0)

  pub given_path : is_given ≡ true → IsPathOver c.entries c.span c.path
  given_path passes =
      IsPath-by_test c.entries c.span.begin c.span.end c.path (both (eqb (length c.potentials) (count_of c)) _ passes).1

  pub IsEdgeFault-by_tests : (u v : Option ℕ) → IsSide c u → IsSide c v → (is_given && (is_unmet u v && are_met_before u v)) ≡ true → IsEdgeFault c u v
  IsEdgeFault-by_tests u v u_is v_is passes =
      let a = both is_given _ passes in
      record { count = given_count a.0; joined = given_path a.0; first = IsFirstUnmet-by_tests u v u_is v_is a.1 }

  pub IsTotalFault-by_tests : (said found : ℤ) → said ≡ c.total → said ≢ found → (is_given && (are_met && int_eq found (path_cost c.lists c.entries c.span c.path))) ≡ true → IsTotalFault c said found
  IsTotalFault-by_tests said found said_is differ passes =
      let a = both is_given _ passes in
      let b = both are_met _ a.1 in
      record { count = given_count a.0; joined = given_path a.0; edges = AreMet-by_test b.0; said_is = said_is; found_is = same_number found (path_cost c.lists c.entries c.span c.path) b.1; differ = differ }

-- the path is the best, and with potentials and total a certificate
abbrev pub is_worked : Claim → Bool
is_worked c =
    (is_forward c.entries && is_path c.entries c.span.begin c.span.end c.path) && (list_all (is_up_to c.lists c.entries c.span c.path) (all_paths c.entries c.span) && (eqb (length c.potentials) (count_of c) && (are_met c && int_eq c.total (path_cost c.lists c.entries c.span c.path))))

pub Worked-by_tests : (d : DataLists) (key bounds : List ℕ) (es : List Entry) (path : List ℕ) (potentials : List ℤ) (total : ℤ) → entries d [] key bounds ≡ es → is_worked (record { lists = d; entries = es; span = span_of (length key); path = path; potentials = potentials; total = total }) ≡ true → Worked d key bounds es path potentials total
Worked-by_tests d key bounds es path potentials total are passes =
    let span = span_of (length key) in
    let c : Claim = record { lists = d; entries = es; span = span; path = path; potentials = potentials; total = total } in
    let a = both (is_forward es && is_path es span.begin span.end path) _ passes in
    let way = both (is_forward es) _ a.0 in
    let b = both (list_all (is_up_to d es span path) (all_paths es span)) _ a.1 in
    let e = both (eqb (length potentials) (count_of c)) _ b.1 in
    let f = both (are_met c) _ e.1 in
    let joined = IsPath-by_test es span.begin span.end path way.1 in
    let count : length potentials ≡ count_of c = grind (arith, nat_tests, e.0) in
    record {
      entries_are = are;
      best = IsBest-by_test d es span path (AreForward-by_test es way.0) joined b.0;
      certified = record { count = count; joined = joined; edges = AreMet-by_test c f.0; sum = same_number total (path_cost d es span path) f.1 };
    }

-- The table grows row by row.
use Rattle.std.proofs.Common.{◌≡◌, refl, sym, ap, ◌∙◌, subst, ℕ, zero, suc, ◌+◌, ◌-◌, ◌<◌, ◌≤◌, ◌⊎◌, inl, inr, Bool, true, false, List, [], ◌∷◌, ◌++◌, Option, Some, None, length, arith, length-append}
use Rattle.std.specs.Prelude.{◌≢◌, ℤ, ◌+ℤ◌, replicate}
use Rattle.std.proofs.Math.ListN.{get_or-append}
use Rattle.std.proofs.lemmas.Bool.Decides.{nat_tests}
use Rattle.std.proofs.lemmas.Int.{ints}
use Rattle.std.proofs.lemmas.List.{get_or_push, length-replicate}
use Rattle.mz_base.specs.Data.{DataLists, AreDataSound, connection}
use Rattle.mz_base.specs.declared.lattice.Entry.{Entry}
use Rattle.mz_base.specs.declared.lattice.Lattice.{Lattice}
use Rattle.mz_base.specs.declared.lattice.Span.{Span}
use Rattle.conversion_meaning.specs.Bounds.{IsWithin}
use Rattle.conversion_meaning.specs.Lattices.{IsCursor, IsWellFormed, entry, no_entry}
use Rattle.conversion_meaning.specs.Paths.{IsSpan}
use Rattle.conversion_meaning.specs.Potentials.{is_in}
use Rattle.conversion_meaning.proofs.BestLemmas.{AreForward-from_well}
use Rattle.conversion_meaning.proofs.CostBounds.{IsWithin-least}
use Rattle.conversion_meaning.proofs.Duality.{AreForward}
use Rattle.conversion_meaning.proofs.LatticeLemmas.{source_first}
use Rattle.lattice.specs.Begins.{IsBegin}
use Rattle.viterbi.specs.declared.arrivals.Arrival.{Arrival}
use Rattle.viterbi.specs.declared.arrivals.Arrivals.{Arrivals}
use Rattle.viterbi.specs.declared.arrivals.Choice.{Choice}
use Rattle.viterbi.specs.declared.table.Reached.{Reached}
use Rattle.viterbi.specs.declared.table.Target.{Target}
use Rattle.viterbi.specs.Arrivals.{IsArrival, AreAllArrivals, AreArrivals, AreSound, IsUpTo, IsCheapest, IsChoice, IsReachedBy, arrival, after_choice, at_begin, choice_of, target_of}
use Rattle.viterbi.specs.Back.{IsWayBack, cost_back}
use Rattle.viterbi.specs.Table.{reached, no_reached, IsTrail, IsReached, IsTable, most_reached}
use Rattle.viterbi.proofs.ArrivalLemmas.{AreAllArrivals-begin, AreAllArrivals-push, each_push, last_or_before}
use Rattle.viterbi.proofs.BackLemmas.{IsWayBack-forward, IsFirstBack-start, IsFirstBack-via, IsLeastCost-from_first, IsWay, IsUpToOver, IsBeaten}

-- a trail goes on in a longer table
pub IsTrail-grow : (table : List Reached) (r : Reached) (last : Option ℕ) (back : List ℕ) → IsTrail table last back → IsTrail (table ++ r ∷ []) last back
IsTrail-grow table r last [] trail = trail
IsTrail-grow table r last (o ∷ back) trail =
    let e : reached (table ++ r ∷ []) o ≡ reached table o = get_or-append table (r ∷ []) no_reached o trail.1 in
    let rest = IsTrail-grow table r (reached table o).before back trail.2 in
    (trail.0, omega (arith, trail.1, length-append table (r ∷ [])), subst (λ (x : Reached). IsTrail (table ++ r ∷ []) x.before back) (sym e) rest)

-- a trail is one list
pub IsTrail-one : (table : List Reached) (last : Option ℕ) (p q : List ℕ) → IsTrail table last p → IsTrail table last q → p ≡ q
IsTrail-one table last [] [] a b = refl
IsTrail-one table last [] (x ∷ q) a b = let e : None ≡ Some x = sym a ∙ b.0 in cc
IsTrail-one table last (o ∷ p) [] a b = let e : None ≡ Some o = sym b ∙ a.0 in cc
IsTrail-one table last (o ∷ p) (x ∷ q) a b =
    let e : Some o ≡ Some x = sym a.0 ∙ b.0 in
    let same : o ≡ x = cc in
    let rest = IsTrail-one table (reached table o).before p q a.2 (subst (λ y. IsTrail table (reached table y).before q) (sym same) b.2) in
    cc

pub IsReached-grow : (d : DataLists) (es : List Entry) (span : Span) (table : List Reached) (more : Reached) (to lid : ℕ) (own : ℤ) (r : Reached) → IsReached d es span table to lid own r → IsReached d es span (table ++ more ∷ []) to lid own r
IsReached-grow d es span table more to lid own r is =
    record { back = is.back; trail = IsTrail-grow table more r.before is.back is.trail; first = is.first; cost_is = is.cost_is }

says_nothing : (n o : ℕ) → reached (replicate n no_reached) o ≡ no_reached
says_nothing zero o = refl
says_nothing (suc n) zero = refl
says_nothing (suc n) (suc o) = says_nothing n o

module _ (d : DataLists) (es : List Entry) (span : Span) where
  -- the table with one row more
  pub IsTable-push : (table : List Reached) (r : Reached) → IsTable d es span table → (is_in span (entry es (length table)) ≡ true → IsReached d es span table (entry es (length table)).begin (entry es (length table)).lid (entry es (length table)).cost r) → IsWithin most_reached r.cost → ((before : ℕ) → r.before ≡ Some before → before < length table) → IsTable d es span (table ++ r ∷ [])
  IsTable-push table r is row small falls =
      record { rows = rows; small = each_push (λ (x : Reached). IsWithin most_reached x.cost) no_reached table r is.small small; falls = fall }
    where
      last_is : reached (table ++ r ∷ []) (length table) ≡ r
      last_is = get_or_push table r no_reached (length table) refl

      longer : length (table ++ r ∷ []) ≡ length table + 1
      longer = length-append table (r ∷ [])

      row_at : (o : ℕ) → (o < length table) ⊎ (o ≡ length table) → is_in span (entry es o) ≡ true → IsReached d es span (table ++ r ∷ []) (entry es o).begin (entry es o).lid (entry es o).cost (reached (table ++ r ∷ []) o)
      row_at o (inl low) inside =
          subst (λ x. IsReached d es span (table ++ r ∷ []) (entry es o).begin (entry es o).lid (entry es o).cost x) (sym (get_or-append table (r ∷ []) no_reached o low)) (IsReached-grow d es span table r (entry es o).begin (entry es o).lid (entry es o).cost (reached table o) (is.rows o low inside))
      row_at o (inr same) inside =
          let here : is_in span (entry es (length table)) ≡ true = subst (λ i. is_in span (entry es i) ≡ true) same inside in
          let grown = IsReached-grow d es span table r (entry es (length table)).begin (entry es (length table)).lid (entry es (length table)).cost r (row here) in
          let put = subst (λ x. IsReached d es span (table ++ r ∷ []) (entry es (length table)).begin (entry es (length table)).lid (entry es (length table)).cost x) (sym last_is) grown in
          subst (λ i. IsReached d es span (table ++ r ∷ []) (entry es i).begin (entry es i).lid (entry es i).cost (reached (table ++ r ∷ []) i)) (sym same) put

      rows : (o : ℕ) → o < length (table ++ r ∷ []) → is_in span (entry es o) ≡ true → IsReached d es span (table ++ r ∷ []) (entry es o).begin (entry es o).lid (entry es o).cost (reached (table ++ r ∷ []) o)
      rows o low inside = row_at o (last_or_before o (length table) (omega (arith, low, longer))) inside

      fall_at : (o before : ℕ) → (o < length table) ⊎ (o ≡ length table) → (reached (table ++ r ∷ []) o).before ≡ Some before → before < o
      fall_at o before (inl low) e =
          is.falls o before low (ap (λ (x : Reached). x.before) (sym (get_or-append table (r ∷ []) no_reached o low)) ∙ e)
      fall_at o before (inr same) e =
          let f : (reached (table ++ r ∷ []) (length table)).before ≡ Some before = subst (λ i. (reached (table ++ r ∷ []) i).before ≡ Some before) same e in
          let g = falls before (ap (λ (x : Reached). x.before) (sym last_is) ∙ f) in
          omega (arith, g, same)

      fall : (o before : ℕ) → o < length (table ++ r ∷ []) → (reached (table ++ r ∷ []) o).before ≡ Some before → before < o
      fall o before low e = fall_at o before (last_or_before o (length table) (omega (arith, low, longer))) e

  -- rows that say nothing, of entries that begin before the span
  pub IsTable-nothing : (before : ℕ) → ((o : ℕ) → o < before → (entry es o).begin < span.begin) → IsTable d es span (replicate before no_reached)
  IsTable-nothing before earlier = record {
    rows = λ o low inside. absurd (let less = earlier o (below o low) in omega (arith, less, begins o inside));
    small = λ o low. subst (λ (x : Reached). IsWithin most_reached x.cost) (sym (says_nothing before o)) (record { above = omega (arith, ints); below = omega (arith, ints) });
    falls = λ o x low known. (let f : None ≡ Some x = ap (λ (y : Reached). y.before) (sym (says_nothing before o)) ∙ known in cc);
  }
    where
      below : (o : ℕ) → o < length (replicate before no_reached) → o < before
      below o low = omega (arith, low, length-replicate before no_reached)

      begins : (o : ℕ) → is_in span (entry es o) ≡ true → span.begin ≤ (entry es o).begin
      begins o inside = grind (arith, nat_tests)

  -- what the target is reached from, where its choice is the cheapest arrival
  pub IsReached-begin : AreForward es → (table : List Reached) (target : Target) → target.begin ≡ span.begin → IsReached d es span table target.begin target.lid target.cost (at_begin d span target)
  IsReached-begin forward table target same =
      record { back = []; trail = refl; first = IsFirstBack-start d es span forward target.begin target.lid same; cost_is = refl }

  module _ (table : List Reached) (is : IsTable d es span table) (target : Target) (xs : List Arrival) (are : AreArrivals es span table target.begin xs) (ahead : target.begin ≤ span.end) (fits : length table ≤ length es) (forward : AreForward es) where
    -- an arrival is an entry of the span
    in_span : (x : Arrival) → IsArrival es span table target.begin x → is_in span (entry es x.ordinal) ≡ true
    in_span x at =
        let ends = at.ends in
        let begins = at.begins in
        grind (arith, nat_tests)

    -- its row, and what leads back over it
    row_of : (x : Arrival) → IsArrival es span table target.begin x → IsReached d es span table (entry es x.ordinal).begin (entry es x.ordinal).lid (entry es x.ordinal).cost (reached table x.ordinal)
    row_of x at = is.rows x.ordinal at.inside (in_span x at)

    cost_over : (x : Arrival) (at : IsArrival es span table target.begin x) → (choice_of d target.lid x).cost ≡ cost_back d es span.left target.lid (x.ordinal ∷ (row_of x at).back)
    cost_over x at =
        let e = (row_of x at).cost_is in
        let f = at.cost_is in
        let h = ap (λ r. connection d r target.lid) at.rid_is in
        omega (arith, ints, e, f, h)

    way_over : (x : Arrival) (at : IsArrival es span table target.begin x) → IsWay d es span target.begin x.ordinal (row_of x at).back
    way_over x at =
        record { inside = (let low = at.inside in omega (arith, low, fits)); ends = at.ends; first = (row_of x at).first }

    beaten_at : (x : Arrival) (at : IsArrival es span table target.begin x) (y : Arrival) → IsArrival es span table target.begin y → IsUpTo (choice_of d target.lid x) (choice_of d target.lid y) → IsBeaten d es span target.begin target.lid x.ordinal (row_of x at).back y.ordinal
    beaten_at x at y there up =
        ((row_of y there).back, way_over y there, over up, one)
      where
        over : IsUpTo (choice_of d target.lid x) (choice_of d target.lid y) → IsUpToOver d es span target.lid (cost_back d es span.left target.lid (x.ordinal ∷ (row_of x at).back)) x.ordinal y.ordinal (row_of y there).back
        over (inl less) =
            let e = cost_over x at in
            let f = cost_over y there in
            inl (omega (arith, ints, e, f, less))
        over (inr tie) =
            let e = cost_over x at in
            let f = cost_over y there in
            inr (sym e ∙ (tie.0 ∙ f), tie.1)

        one : x.ordinal ≡ y.ordinal → (row_of x at).back ≡ (row_of y there).back
        one same =
            IsTrail-one table (reached table x.ordinal).before (row_of x at).back (row_of y there).back (row_of x at).trail (subst (λ o. IsTrail table (reached table o).before (row_of y there).back) (sym same) (row_of y there).trail)

    reached_over : (x : Arrival) → IsArrival es span table target.begin x → span.begin ≢ target.begin → ((k : ℕ) → k < length xs → IsUpTo (choice_of d target.lid x) (choice_of d target.lid (arrival xs k))) → IsReached d es span table target.begin target.lid target.cost (after_choice target.cost (Some (choice_of d target.lid x)))
    reached_over x at apart least =
        record { back = x.ordinal ∷ (row_of x at).back; trail = (refl, at.inside, (row_of x at).trail); first = IsFirstBack-via d es span target.begin target.lid x.ordinal (row_of x at).back apart (way_over x at) beaten; cost_is = ap (λ c. c +ℤ target.cost) (cost_over x at) }
      where
        beaten : (o : ℕ) (other : List ℕ) → o < length es → (entry es o).end ≡ target.begin → IsWayBack es span.begin (entry es o).begin other → IsBeaten d es span target.begin target.lid x.ordinal (row_of x at).back o
        beaten o other inside ends way =
            let r = are.all o inside ends (IsWayBack-forward es forward span.begin (entry es o).begin other way) in
            subst (λ y. IsBeaten d es span target.begin target.lid x.ordinal (row_of x at).back y) r.2 (beaten_at x at (arrival xs r.0) (are.each r.0 r.1) (least r.0 r.1))

    pub IsReached-cheapest : (choice : Choice) → span.begin ≢ target.begin → IsCheapest d xs target.lid choice → IsReached d es span table target.begin target.lid target.cost (after_choice target.cost (Some choice))
    IsReached-cheapest choice apart cheapest =
        let same = cheapest.choice_is in
        subst (λ c. IsReached d es span table target.begin target.lid target.cost (after_choice target.cost (Some c))) (sym same) (reached_over (arrival xs cheapest.place) (are.each cheapest.place cheapest.inside) apart (λ k low. subst (λ c. IsUpTo c (choice_of d target.lid (arrival xs k))) same (cheapest.least k low)))

    -- where some arrival is, one is chosen
    pub IsReached-chosen : (choice : Option Choice) → span.begin ≢ target.begin → 0 < length xs → IsChoice d xs target.lid choice → IsReached d es span table target.begin target.lid target.cost (after_choice target.cost choice)
    IsReached-chosen None apart some none = absurd (omega (arith, some, none))
    IsReached-chosen (Some choice) apart some cheapest = IsReached-cheapest choice apart cheapest

pub order : (a b : ℕ) → (a < b) ⊎ (b ≤ a)
order a b = grind arith

equal_or_not : (a b : ℕ) → (a ≡ b) ⊎ (a ≢ b)
equal_or_not a b = grind arith

module _ (d : DataLists) (l : Lattice) (span : Span) (well : IsWellFormed d l) (spans : IsSpan d l span) (table : List Reached) (is : IsTable d l.entries span table) where
  -- arrivals are sound
  pub AreSound-arrivals : (to : ℕ) (xs : List Arrival) → length table ≤ length l.entries → AreArrivals l.entries span table to xs → AreSound d xs
  AreSound-arrivals to xs fits are = record { ids = ids; costs = costs; rising = are.rising }
    where
      ids : (k : ℕ) → k < length xs → (arrival xs k).rid < d.ids
      ids k low =
          let at = are.each k low in
          let there = at.inside in
          let right = (well.entries (arrival xs k).ordinal no_entry (omega (arith, there, fits))).right in
          let e = at.rid_is in
          omega (arith, right, e)

      costs : (k : ℕ) → k < length xs → IsWithin most_reached (arrival xs k).cost
      costs k low =
          let at = are.each k low in
          subst (λ c. IsWithin most_reached c) (sym at.cost_is) (is.small (arrival xs k).ordinal at.inside)

  -- behind the begin of the span some entry ends at each position
  some_arrival : (to : ℕ) (xs : List Arrival) → span.begin < to → to ≤ span.end → AreArrivals l.entries span table to xs → 0 < length xs
  some_arrival to xs after ahead are =
      let inside = spans.inside in
      let o = well.characters (to - 1) (omega (arith, after, ahead, inside)) in
      let begins = o.2 in
      let ends = o.3 in
      let r = are.all o.0 o.1 (omega (arith, ends, after)) (omega (arith, begins, after)) in
      let low = r.1 in
      omega (arith, low)

  -- the target is reached from the left id at the span's begin, and else from the cheapest arrival
  pub IsReached-by : (target : Target) (xs : List Arrival) (r : Reached) → length table ≤ length l.entries → span.begin ≤ target.begin → target.begin ≤ span.end → AreArrivals l.entries span table target.begin xs → (target.begin ≡ span.begin → r ≡ at_begin d span target) → (target.begin ≢ span.begin → (choice : Option Choice) × IsChoice d xs target.lid choice × (r ≡ after_choice target.cost choice)) → IsReached d l.entries span table target.begin target.lid target.cost r
  IsReached-by target xs r fits after ahead are begin chosen = by_place (equal_or_not target.begin span.begin)
    where
      forward : AreForward l.entries
      forward = AreForward-from_well d l well

      by_place : (target.begin ≡ span.begin) ⊎ (target.begin ≢ span.begin) → IsReached d l.entries span table target.begin target.lid target.cost r
      by_place (inl same) =
          subst (λ x. IsReached d l.entries span table target.begin target.lid target.cost x) (sym (begin same)) (IsReached-begin d l.entries span forward table target same)
      by_place (inr apart) =
          let c = chosen apart in
          let some = some_arrival target.begin xs (omega (arith, apart, after)) ahead are in
          subst (λ x. IsReached d l.entries span table target.begin target.lid target.cost x) (sym c.2) (IsReached-chosen d l.entries span table is target xs are ahead fits forward c.0 (λ e. apart (sym e)) some c.1)

  -- what is reached is an ordinal of the table
  pub before_inside : (to lid : ℕ) (own : ℤ) (r : Reached) (before : ℕ) → IsReached d l.entries span table to lid own r → r.before ≡ Some before → before < length table
  before_inside to lid own r before reached_is e = by_trail reached_is.back reached_is.trail
    where
      by_trail : (back : List ℕ) → IsTrail table r.before back → before < length table
      by_trail [] trail = let f : None ≡ Some before = sym trail ∙ e in cc
      by_trail (o ∷ back) trail =
          let f : Some o ≡ Some before = sym trail.0 ∙ e in
          let same : o ≡ before = cc in
          let low = trail.1 in
          omega (arith, same, low)

  -- the row of an entry
  pub IsTable-row : AreDataSound d → (r : Reached) → length table < length l.entries → (is_in span (entry l.entries (length table)) ≡ true → IsReached d l.entries span table (entry l.entries (length table)).begin (entry l.entries (length table)).lid (entry l.entries (length table)).cost r) → (is_in span (entry l.entries (length table)) ≡ false → r ≡ no_reached) → IsTable d l.entries span (table ++ r ∷ [])
  IsTable-row sound r low row out =
      by_place (is_in span (entry l.entries o)) refl
    where
      o : ℕ
      o = length table

      e : Entry
      e = entry l.entries (length table)

      within : IsReached d l.entries span table (entry l.entries (length table)).begin (entry l.entries (length table)).lid (entry l.entries (length table)).cost r → IsWithin most_reached r.cost
      within reached_is =
          let cost = IsLeastCost-from_first d l.entries span (length table) reached_is.back r.cost reached_is.first reached_is.cost_is in
          let w = IsWithin-least d l span (length table) r.cost sound well spans low cost in
          let last = (well.entries (length table) no_entry low).inside in
          let few = well.key.few in
          let above = w.above in
          let below = w.below in
          record { above = omega (arith, ints, above, last, few); below = omega (arith, ints, below, last, few) }

      by_place : (b : Bool) → is_in span (entry l.entries (length table)) ≡ b → IsTable d l.entries span (table ++ r ∷ [])
      by_place true inside =
          let reached_is = row inside in
          IsTable-push d l.entries span table r is row (within reached_is) (λ before known. before_inside (entry l.entries (length table)).begin (entry l.entries (length table)).lid (entry l.entries (length table)).cost r before reached_is known)
      by_place false outside =
          let same = out outside in
          IsTable-push d l.entries span table r is row (subst (λ x. IsWithin most_reached x.cost) (sym same) (record { above = omega (arith, ints); below = omega (arith, ints) })) (λ before known. let f : None ≡ Some before = ap (λ (x : Reached). x.before) (sym same) ∙ known in cc)

  row_next : AreDataSound d → (next : Entry) → length table < length l.entries → next ≡ entry l.entries (length table) → (r : Reached) → (is_in span next ≡ true → IsReached d l.entries span table next.begin next.lid next.cost r) → (is_in span next ≡ false → r ≡ no_reached) → IsTable d l.entries span (table ++ r ∷ [])
  row_next sound next room same r row out =
      IsTable-row sound r room (λ inside. subst (λ (e : Entry). IsReached d l.entries span table e.begin e.lid e.cost r) same (row (ap (is_in span) same ∙ inside))) (λ outside. out (ap (is_in span) same ∙ outside))

  -- the table with the row of the next entry, by the arrivals at its begin
  pub IsTable-next : AreDataSound d → (next : Entry) → length table < length l.entries → next ≡ entry l.entries (length table) → (xs : List Arrival) → AreArrivals l.entries span table next.begin xs → (r : Reached) → (is_in span next ≡ true → IsReachedBy d span xs (target_of next) r) → (is_in span next ≡ false → r ≡ no_reached) → IsTable d l.entries span (table ++ r ∷ [])
  IsTable-next sound next room same xs are r row out = row_next sound next room same r by_arrivals out
    where
      by_arrivals : is_in span next ≡ true → IsReached d l.entries span table next.begin next.lid next.cost r
      by_arrivals inside =
          let by = row inside in
          let forward : next.begin < next.end = subst (λ (e : Entry). e.begin < e.end) (sym same) (well.entries (length table) no_entry room).forward in
          let begins : span.begin ≤ next.begin = grind (arith, nat_tests) in
          let ends : next.end ≤ span.end = grind (arith, nat_tests) in
          IsReached-by (target_of next) xs r (omega (arith, room)) begins (omega (arith, forward, ends)) are by.begin by.chosen

  -- what ends where the next entry begins has its row already
  pub sources_inside : (next : Entry) → length table < length l.entries → next ≡ entry l.entries (length table) → (o : ℕ) → o < length l.entries → (entry l.entries o).end ≡ next.begin → o < length table
  sources_inside next room same o inside ends =
      source_first d l o (length table) well inside room (ends ∙ ap (λ (e : Entry). e.begin) same)

-- the table so far, with the arrivals at a position that is not behind the entries that come next
pub record IsSoFar (d : DataLists) (l : Lattice) (span : Span) (here : Arrivals) (table : List Reached) (n : ℕ) : Type 0 where
  pub count : length table ≡ n
  pub is : IsTable d l.entries span table
  pub all : AreAllArrivals l.entries l.by_end span table here
  pub later : (o : ℕ) → n ≤ o → o < length l.entries → here.to ≤ (entry l.entries o).begin

module _ (d : DataLists) (l : Lattice) (span : Span) (well : IsWellFormed d l) where
  -- before the first entry of the span nothing is reached, and no entry of it ends at its begin
  pub IsSoFar-begin : (here : Arrivals) (first : ℕ) → IsBegin l.entries span.begin first → here.to ≡ span.begin → IsCursor l.entries l.by_end (span.begin + 1) here.past → here.list.items ≡ [] → IsSoFar d l span here (replicate first no_reached) first
  IsSoFar-begin here first at to past none = record {
    count = length-replicate first no_reached;
    is = IsTable-nothing d l.entries span first at.before;
    all = AreAllArrivals-begin l.entries l.by_end span (replicate first no_reached) here (AreForward-from_well d l well) to past none;
    later = λ o high low. (let after = at.after o high low in omega (arith, after, to));
  }

  pub IsSoFar-next : IsSpan d l span → AreDataSound d → (before here : Arrivals) (table : List Reached) (n : ℕ) (next : Entry) (r : Reached) → IsSoFar d l span before table n → n < length l.entries → next ≡ entry l.entries n → AreAllArrivals l.entries l.by_end span table here → here.to ≡ next.begin → (is_in span next ≡ true → IsReachedBy d span here.list.items (target_of next) r) → (is_in span next ≡ false → r ≡ no_reached) → IsSoFar d l span here (table ++ r ∷ []) (n + 1)
  IsSoFar-next spans sound before here table n next r so_far room same all to row out =
      let count = so_far.count in
      let inside : length table < length l.entries = omega (arith, count, room) in
      let next_is : next ≡ entry l.entries (length table) = same ∙ ap (entry l.entries) (sym count) in
      record {
        count = omega (arith, count, length-append table (r ∷ []));
        is = IsTable-next d l span well spans table so_far.is sound next inside next_is here.list.items (subst (λ t. AreArrivals l.entries span table t here.list.items) to all.are) r row out;
        all = AreAllArrivals-push l.entries l.by_end span table r here all;
        later = λ o high low. (let e = (well.rising n o no_entry (omega (arith, high)) low).begins in let f = ap (λ (x : Entry). x.begin) same in omega (arith, e, f, to));
      }

-- ---- The whole table

module _ (es : List Entry) (span : Span) (forward : AreForward es) where
  -- where all have rows that begin before the span ends, each entry of the span has one
  pub in_table : (n o : ℕ) → IsBegin es span.end n → o < length es → is_in span (entry es o) ≡ true → o < n
  in_table n o at low inside = by_order (order o n)
    where
      by_order : (o < n) ⊎ (n ≤ o) → o < n
      by_order (inl less) = less
      by_order (inr more) =
          let after = at.after o more low in
          let ahead = forward o low in
          let ends : (entry es o).end ≤ span.end = grind (arith, nat_tests) in
          absurd (omega (arith, after, ahead, ends))

  -- and so has each that ends where the span does
  pub ends_in_table : (n o : ℕ) → IsBegin es span.end n → o < length es → (entry es o).end ≡ span.end → o < n
  ends_in_table n o at low ends = by_order (order o n)
    where
      by_order : (o < n) ⊎ (n ≤ o) → o < n
      by_order (inl less) = less
      by_order (inr more) =
          let after = at.after o more low in
          let ahead = forward o low in
          absurd (omega (arith, after, ahead, ends))

-- the first entries of a span stand no later than the first behind it
pub begins_in_order : (es : List Entry) (begin end first past : ℕ) → begin ≤ end → IsBegin es begin first → IsBegin es end past → first ≤ past
begins_in_order es begin end first past before at behind = by_order (order past first)
  where
    by_order : (past < first) ⊎ (first ≤ past) → first ≤ past
    by_order (inr low) = low
    by_order (inl less) =
        let within = at.within in
        let low = at.before past less in
        let high = behind.after past (omega arith) (omega (arith, less, within)) in
        absurd (omega (arith, low, high, before))

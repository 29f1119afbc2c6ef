-- Tails: what comes before them, what they cost, and their estimates.
use Rattle.std.proofs.Common.{◌≡◌, refl, sym, ap, ◌∙◌, subst, ℕ, ◌+◌, ◌-◌, ◌*◌, ◌<◌, Bool, true, false, ◌&&◌, eqb, eq-eqb, List, [], ◌∷◌, ◌++◌, arith}
use Rattle.std.specs.Prelude.{ℤ, ◌+ℤ◌, ◌-ℤ◌, reverse}
use Rattle.std.specs.List.{All}
use Rattle.std.proofs.lemmas.Bool.Decides.{nat_tests}
use Rattle.std.proofs.lemmas.Int.{ints}
use Rattle.mz_base.specs.Data.{AreDataSound, DataLists, connection}
use Rattle.mz_base.specs.declared.lattice.Entry.{Entry}
use Rattle.mz_base.specs.declared.lattice.Span.{Span}
use Rattle.conversion_meaning.specs.Bounds.{IsWithin, most_step}
use Rattle.conversion_meaning.specs.Lattices.{IsEntry, entry, no_entry}
use Rattle.conversion_meaning.specs.Paths.{IsPath}
use Rattle.conversion_meaning.specs.Potentials.{IsLeastCost}
use Rattle.conversion_meaning.proofs.Duality.{AreForward}
use Rattle.viterbi.specs.Back.{IsWayBack, cost_back}
use Rattle.viterbi.proofs.BackLemmas.{IsPath-reverse, IsWayBack-forward, IsWayBack-reverse, cost_back-reverse, cost_between-reverse}
use Rattle.nbest.specs.Searches.{IsEstimate, begin_of, is_front, lid_of, rest_of}

-- ---- One entry more

pub begin_of-push : (es : List Entry) (to : ℕ) (tail : List ℕ) (o : ℕ) → begin_of es to (tail ++ o ∷ []) ≡ (entry es o).begin
begin_of-push es to [] o = refl
begin_of-push es to (x ∷ tail) o = begin_of-push es (entry es x).begin tail o

pub lid_of-push : (es : List Entry) (right : ℕ) (tail : List ℕ) (o : ℕ) → lid_of es right (tail ++ o ∷ []) ≡ (entry es o).lid
lid_of-push es right [] o = refl
lid_of-push es right (x ∷ tail) o = lid_of-push es (entry es x).lid tail o

pub rest_of-push : (d : DataLists) (es : List Entry) (right : ℕ) (tail : List ℕ) (o : ℕ) → rest_of d es right (tail ++ o ∷ []) ≡ (rest_of d es right tail +ℤ ((entry es o).cost +ℤ connection d (entry es o).rid (lid_of es right tail)))
rest_of-push d es right [] o = refl
rest_of-push d es right (x ∷ tail) o =
    let rest = rest_of-push d es (entry es x).lid tail o in omega (arith, ints, rest)

-- ---- A tail, and what comes before it

pub way-join : (es : List Entry) (from to : ℕ) (tail before : List ℕ) → IsWayBack es (begin_of es to tail) to tail → IsWayBack es from (begin_of es to tail) before → IsWayBack es from to (tail ++ before)
way-join es from to [] before way rest = rest
way-join es from to (o ∷ tail) before way rest =
    (way.0, way.1, way-join es from (entry es o).begin tail before way.2 rest)

pub way-split : (es : List Entry) (from to : ℕ) (tail before : List ℕ) → IsWayBack es from to (tail ++ before) → IsWayBack es (begin_of es to tail) to tail × IsWayBack es from (begin_of es to tail) before
way-split es from to [] before way = (refl, way)
way-split es from to (o ∷ tail) before way =
    let r = way-split es from (entry es o).begin tail before way.2 in
    ((way.0, way.1, r.0), r.1)

pub cost_back-join : (d : DataLists) (es : List Entry) (left right : ℕ) (tail before : List ℕ) → cost_back d es left right (tail ++ before) ≡ (cost_back d es left (lid_of es right tail) before +ℤ rest_of d es right tail)
cost_back-join d es left right [] before = omega (arith, ints)
cost_back-join d es left right (o ∷ tail) before =
    let rest = cost_back-join d es left (entry es o).lid tail before in
    omega (arith, ints, rest)

-- ---- Fronts

pub is_front-append : (tail before : List ℕ) → is_front tail (tail ++ before) ≡ true
is_front-append [] before = refl
is_front-append (o ∷ tail) before = rw (eq-eqb o o refl) (is_front-append tail before)

pub both : (a b : Bool) → (a && b) ≡ true → (a ≡ true) × (b ≡ true)
both true b h = (refl, h)
both false b h = absurd (let clash : false ≡ true = h in cc)

pub front_rest : (tail other : List ℕ) → is_front tail other ≡ true → (before : List ℕ) × (other ≡ tail ++ before)
front_rest [] other h = (other, refl)
front_rest (o ∷ tail) [] h = absurd (let clash : false ≡ true = h in cc)
front_rest (o ∷ tail) (x ∷ other) h =
    let r = both (eqb o x) (is_front tail other) h in
    let same : o ≡ x = grind (arith, nat_tests, r.0) in
    let rest = front_rest tail other r.1 in
    (rest.0, ap (λ y. y ∷ other) (sym same) ∙ ap (λ ys. o ∷ ys) rest.1)

-- with one entry more it is a front where that entry comes next
pub is_front-push : (tail : List ℕ) (o x : ℕ) (before : List ℕ) → is_front (tail ++ o ∷ []) (tail ++ x ∷ before) ≡ eqb o x
is_front-push [] o x before = by_test (eqb o x)
  where
    by_test : (b : Bool) → (b && true) ≡ b
    by_test true = refl
    by_test false = refl
is_front-push (y ∷ tail) o x before = rw (eq-eqb y y refl) (is_front-push tail o x before)

-- what begins with a longer tail begins with the tail
pub front-shorter : (tail : List ℕ) (o : ℕ) (other : List ℕ) → is_front (tail ++ o ∷ []) other ≡ true → is_front tail other ≡ true
front-shorter [] o other h = refl
front-shorter (y ∷ tail) o [] h = h
front-shorter (y ∷ tail) o (x ∷ other) h =
    let r = both (eqb y x) (is_front (tail ++ o ∷ []) other) h in
    rw r.0 (front-shorter tail o other r.1)

-- ---- Estimates

module _ (d : DataLists) (es : List Entry) (span : Span) where
  -- The least cost of an entry gives the estimate of a tail that begins with it.
  pub IsEstimate-from_least : (tail : List ℕ) (o : ℕ) (cost : ℤ) → begin_of es span.end tail ≡ (entry es o).begin → lid_of es span.right tail ≡ (entry es o).lid → IsLeastCost d es span o cost → IsEstimate d es span tail ((cost -ℤ (entry es o).cost) +ℤ rest_of d es span.right tail)
  IsEstimate-from_least tail o cost begins lids is = record {
    reached = (reverse is.reached.0, way_of is.reached.0 is.reached.1, (let e = is.reached.2 in let f = whole (reverse is.reached.0) in let h = cost_back-reverse d es span.left (entry es o).lid is.reached.0 in omega (arith, ints, e, f, h)));
    least = λ before way. (let low = is.least (reverse before) (IsPath-reverse es span.begin (entry es o).begin before (subst (λ n. IsWayBack es span.begin n before) begins way)) in let f = whole before in let h = cost_between-reverse d es span.left (entry es o).lid before in omega (arith, ints, low, f, h));
  }
    where
      way_of : (path : List ℕ) → IsPath es span.begin (entry es o).begin path → IsWayBack es span.begin (begin_of es span.end tail) (reverse path)
      way_of path joined =
          subst (λ n. IsWayBack es span.begin n (reverse path)) (sym begins) (IsWayBack-reverse es span.begin (entry es o).begin path joined)

      whole : (before : List ℕ) → cost_back d es span.left span.right (tail ++ before) ≡ (cost_back d es span.left (entry es o).lid before +ℤ rest_of d es span.right tail)
      whole before =
          subst (λ n. cost_back d es span.left span.right (tail ++ before) ≡ (cost_back d es span.left n before +ℤ rest_of d es span.right tail)) lids (cost_back-join d es span.left span.right tail before)

  pub IsEstimate-one : (tail : List ℕ) (a b : ℤ) → IsEstimate d es span tail a → IsEstimate d es span tail b → a ≡ b
  IsEstimate-one tail a b one other =
      let x = one.least other.reached.0 other.reached.1 in
      let y = other.least one.reached.0 one.reached.1 in
      let e = one.reached.2 in
      let f = other.reached.2 in
      omega (arith, ints, x, y, e, f)

-- nothing but the empty list leads back from a position to itself
pub only_empty : (es : List Entry) → AreForward es → (here : ℕ) (back : List ℕ) → IsWayBack es here here back → back ≡ []
only_empty es forward here [] way = refl
only_empty es forward here (o ∷ back) way =
    let ahead = forward o way.0 in
    let rest = IsWayBack-forward es forward here (entry es o).begin back way.2 in
    absurd (omega (arith, ahead, rest, way.1))

-- ---- Bounds

-- a tail costs no more than a step a character
pub IsWithin-rest_of : (d : DataLists) → AreDataSound d → (key bounds : List ℕ) (es : List Entry) → All (IsEntry d key bounds) es → AreForward es → (right n from to : ℕ) (tail : List ℕ) → right < d.ids → IsWayBack es from to tail → from + n ≡ to → IsWithin (most_step * n) (rest_of d es right tail)
IsWithin-rest_of d sound key bounds es are forward right n from to [] right_is way sum =
    let none : n ≡ 0 = omega (arith, way, sum) in
    record { above = omega (arith, ints, none); below = omega (arith, ints, none) }
IsWithin-rest_of d sound key bounds es are forward right n from to (o ∷ tail) right_is way sum =
    let e = are o no_entry way.0 in
    let c = sound.connections (entry es o).rid right e.right right_is in
    let ahead = e.forward in
    let there = IsWayBack-forward es forward from (entry es o).begin tail way.2 in
    let ends = way.1 in
    let m = (entry es o).begin - from in
    let rest = IsWithin-rest_of d sound key bounds es are forward (entry es o).lid m from (entry es o).begin tail e.left way.2 (omega (arith, there)) in
    let first_high = c.below in
    let own_high = e.cost.below in
    let rest_high = rest.below in
    let first_low = c.above in
    let own_low = e.cost.above in
    let rest_low = rest.above in
    record { above = omega (arith, ints, first_low, own_low, rest_low, ahead, ends, there, sum); below = omega (arith, ints, first_high, own_high, rest_high, ahead, ends, there, sum) }

use Rattle.std.proofs.Common.{◌≡◌, refl, sym, subst, ℕ, ◌<◌, List, [], ◌∷◌, ◌++◌, length, Option, Some, None, append-nil, append_assoc, arith}
use Rattle.std.specs.Prelude.{IfSome}
use Rattle.viterbi.specs.declared.table.Reached.{Reached}
use Rattle.viterbi.specs.Table.{IsTrail, reached}
use Rattle.viterbi.proofs.table.trail.Goals as goal

-- the ordinal before one of the table is in the table too
before_inside : (table : List Reached) (o : ℕ) → o < length table → ((x before : ℕ) → x < length table → (reached table x).before ≡ Some before → before < x) → IfSome (reached table o).before (λ x. x < length table)
before_inside table o low falls = by_value (reached table o).before refl
  where
    by_value : (before : Option ℕ) → (reached table o).before ≡ before → IfSome before (λ x. x < length table)
    by_value None is = tt
    by_value (Some x) is = let less = falls o x low is in omega (arith, less, low)

at_some : (n o : ℕ) (at : Option ℕ) → at ≡ Some o → IfSome at (λ x. x < n) → o < n
at_some n o at is inside = subst (λ x. IfSome x (λ y. y < n)) is inside

pub loop-at-preserved : goal.loop-at-preserved
loop-at-preserved c =
    let table = c.args.table.now in
    let o = c.in-Some.ordinal in
    let low : o < length table = at_some (length table) o c.loop-at.at c.in-Some.is c.loop-at.invariant.inside in
    record {
      inside = subst (λ (r : Reached). IfSome r.before (λ x. x < length table)) (sym c.at-at.ensures) (before_inside table o low c.requires.falls);
      goes_on = λ rest trail. subst (λ p. IsTrail table c.args.last (p ++ rest)) (sym c.in_ok-push.ensures.items) (subst (λ p. IsTrail table c.args.last p) (sym (append_assoc c.loop-at.path.items (o ∷ []) rest)) (c.loop-at.invariant.goes_on (o ∷ rest) (c.in-Some.is, low, subst (λ (r : Reached). IsTrail table r.before rest) c.at-at.ensures trail)));
    }

pub returns : goal.returns
returns c =
    let whole = c.loop-at.invariant.goes_on [] c.in_default.is in
    (c.loop-at.path.items, subst (λ p. IsTrail c.args.table.now c.args.last p) (append-nil c.loop-at.path.items) whole, c.reversed.ensures)

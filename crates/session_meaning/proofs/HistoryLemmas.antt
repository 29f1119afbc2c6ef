-- A history that is learned again.
use Rattle.std.proofs.Common.{◌≡◌, ◌≤◌, false, not, List, [], ◌∷◌, filter, length, take, refl, ap, ◌∙◌, arith}
use Rattle.std.specs.Prelude.{reverse}
use Rattle.std.specs.List.{AllByRecursion, IsDistinct}
use Rattle.std.proofs.lemmas.List.{reverse-append, take_all}
use Rattle.std.proofs.lemmas.List.Sums.{fold_push}
use Rattle.mz_base.specs.declared.lattice.Pair.{Pair}
use Rattle.session_meaning.specs.History.{is_pair, learn, with_learned}
use Rattle.session_meaning.specs.HistoryLaws.{IsHistory, RelearnedIsSame}
use Rattle.session_meaning.specs.declared.history.TheConstants.{MOST_PAIRS}

-- no pair goes where none is equal
pub filter-apart : (pair : Pair) (pairs : List Pair) → AllByRecursion (λ other. is_pair pair other ≡ false) pairs → filter (λ other. not (is_pair pair other)) pairs ≡ pairs
filter-apart pair [] apart = refl
filter-apart pair (other ∷ others) apart =
    rw apart.0 (ap (λ (pairs : List Pair). other ∷ pairs) (filter-apart pair others apart.1))

-- a pair that is not there goes before the others
with_learned-new : (pair : Pair) (pairs : List Pair) → IsHistory (pair ∷ pairs) → with_learned pairs pair ≡ pair ∷ pairs
unfolding IsDistinct
with_learned-new pair pairs is =
    ap (λ (pairs : List Pair). take MOST_PAIRS (pair ∷ pairs)) (filter-apart pair pairs is.distinct.0)
    ∙ take_all MOST_PAIRS (pair ∷ pairs) is.few

-- the others are a history too
others-history : (pair : Pair) (pairs : List Pair) → IsHistory (pair ∷ pairs) → IsHistory pairs
unfolding IsDistinct
others-history pair pairs is =
    let few : length (pair ∷ pairs) ≤ MOST_PAIRS = is.few in
    record { distinct = is.distinct.1; few = omega (arith, few) }

pub relearned : RelearnedIsSame
relearned [] is = refl
relearned (pair ∷ pairs) is =
    ap (λ (pairs : List Pair). learn [] pairs) (reverse-append (pair ∷ []) pairs)
    ∙ (fold_push with_learned [] (reverse pairs) pair
    ∙ (ap (λ (history : List Pair). with_learned history pair) (relearned pairs (others-history pair pairs is)) ∙ with_learned-new pair pairs is))

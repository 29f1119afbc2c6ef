-- Cuts of a path: they rise to the key's end, and begin with the bounds.
use Rattle.std.proofs.Common.{◌≡◌, refl, sym, ap, subst, ℕ, suc, ◌+◌, ◌<◌, ◌≤◌, Bool, true, false, cond, ◌⊎◌, inl, inr, List, [], ◌∷◌, ◌++◌, length, get_or, take, arith}
use Rattle.std.specs.Prelude.{nat_lt, filter}
use Rattle.std.specs.List.{All}
use Rattle.std.specs.List.Sorted.{IsStrictlyIncreasing}
use Rattle.std.proofs.lemmas.Bool.Decides.{nat_tests}
use Rattle.mz_base.specs.Data.{DataLists}
use Rattle.mz_base.specs.declared.lattice.Entry.{Entry}
use Rattle.mz_base.specs.declared.lattice.Lattice.{Lattice}
use Rattle.conversion_meaning.specs.Lattices.{IsWellFormed, entry}
use Rattle.conversion_meaning.specs.Paths.{IsPath, IsPathOver, whole}
use Rattle.conversion_meaning.specs.SegmentLaws.{AreTouching}
use Rattle.conversion_meaning.specs.Segments.{breaks, cut, goes_on, last_bound, parts_from, segment_ends}
use Rattle.conversion_meaning.proofs.BestLemmas.{AreForward-from_well}
use Rattle.conversion_meaning.proofs.Duality.{AreForward, IsPath-forward}
use Rattle.conversion_meaning.proofs.Lists.{Among, place_of}

-- ---- Positions that rise

-- each is past the one before, from one to another
abbrev pub Ascends : ℕ → ℕ → List ℕ → Type 0
Ascends from to [] = from ≡ to
Ascends from to (x ∷ xs) = (from < x) × Ascends x to xs

pub Ascends-le : (from to : ℕ) (xs : List ℕ) → Ascends from to xs → from ≤ to
Ascends-le from to [] h = omega (arith, h)
Ascends-le from to (x ∷ xs) h =
    let rest = Ascends-le x to xs h.1 in
    let first = h.0 in
    omega (arith, rest, first)

Ascends-append : (a b c : ℕ) (xs ys : List ℕ) → Ascends a b xs → Ascends b c ys → Ascends a c (xs ++ ys)
Ascends-append a b c [] ys h k = subst (λ x. Ascends x c ys) (sym h) k
Ascends-append a b c (x ∷ xs) ys h k = (h.0, Ascends-append x b c xs ys h.1 k)

-- from a lower position too
Ascends-lower : (low from to : ℕ) (xs : List ℕ) → low ≤ from → from < to → Ascends from to xs → Ascends low to xs
Ascends-lower low from to [] below short h = absurd (omega (arith, h))
Ascends-lower low from to (x ∷ xs) below short h = (let first = h.0 in omega (arith, first), h.1)

pub lt_true : (a b : ℕ) → a < b → nat_lt a b ≡ true
lt_true a b h = grind (arith, nat_tests)

pub lt_false : (a b : ℕ) → b ≤ a → nat_lt a b ≡ false
lt_false a b h = grind (arith, nat_tests)

pub below_or_not : (a b : ℕ) → (a < b) ⊎ (b ≤ a)
below_or_not a b = grind arith

-- those past a position that is not past the first
Ascends-kept : (last from to : ℕ) (xs : List ℕ) → last ≤ from → Ascends from to xs → Ascends from to (filter (nat_lt last) xs)
Ascends-kept last from to [] low h = h
Ascends-kept last from to (x ∷ xs) low h =
    let first = h.0 in
    let above : last < x = omega (arith, first) in
    let rest = Ascends-kept last x to xs (omega (arith, above)) h.1 in
    rw (lt_true last x above) (first, rest)

-- those past a position on the way
pub Ascends-filter : (last from to : ℕ) (xs : List ℕ) → from ≤ last → last ≤ to → Ascends from to xs → Ascends last to (filter (nat_lt last) xs)
Ascends-filter last from to [] low high h = omega (arith, h)
Ascends-filter last from to (x ∷ xs) low high h =
    by_order (below_or_not last x) (Ascends-filter last x to xs)
  where
    by_order : (last < x) ⊎ (x ≤ last) → (x ≤ last → last ≤ to → Ascends x to xs → Ascends last to (filter (nat_lt last) xs)) → Ascends last to (filter (nat_lt last) (x ∷ xs))
    by_order (inl above) rest =
        let kept = Ascends-kept last x to xs (omega (arith, above)) h.1 in
        rw (lt_true last x above) (above, kept)
    by_order (inr within) rest = rw (lt_false last x within) (rest within high h.1)

pub Ascends-bounds : (from : ℕ) (bounds : List ℕ) → (0 < length bounds → from < get_or bounds 0 0) → IsStrictlyIncreasing bounds → Ascends from (get_or (from ∷ bounds) (length bounds) 0) bounds
Ascends-bounds from [] above rises = refl
Ascends-bounds from (b ∷ bounds) above rises =
    (above (omega arith), Ascends-bounds b bounds (λ some. rises 0 (omega (arith, some))) later)
  where
    later : IsStrictlyIncreasing bounds
    later k inside =
        let next : suc k + 1 ≡ suc (k + 1) = omega arith in
        subst (λ n. get_or bounds k 0 < get_or (b ∷ bounds) n 0) next (rises (suc k) (omega (arith, inside)))

last-le : (from most : ℕ) (bounds : List ℕ) → from ≤ most → ((x : ℕ) → Among x bounds → x ≤ most) → get_or (from ∷ bounds) (length bounds) 0 ≤ most
last-le from most [] low inside = low
last-le from most (b ∷ bounds) low inside =
    last-le b most bounds (inside b (inl refl)) (λ x h. inside x (inr h))

-- ---- Parts

pub AreTouching-ascends : (from to : ℕ) (xs : List ℕ) → Ascends from to xs → AreTouching from to (parts_from from xs)
AreTouching-ascends from to [] h = h
AreTouching-ascends from to (x ∷ xs) h = (refl, h.0, AreTouching-ascends x to xs h.1)

-- the first parts are those between the first positions
pub parts_from-take : (from : ℕ) (xs ys : List ℕ) → take (length xs) (parts_from from (xs ++ ys)) ≡ parts_from from xs
parts_from-take from [] ys = refl
parts_from-take from (x ∷ xs) ys = ap (λ parts. (from, x) ∷ parts) (parts_from-take x xs ys)

pub cut-keeps_bounds : (d : DataLists) (es : List Entry) (bounds path : List ℕ) → take (length bounds) (cut d es bounds path) ≡ parts_from 0 bounds
unfolding cut
cut-keeps_bounds d es bounds path =
    parts_from-take 0 bounds (filter (nat_lt (last_bound bounds)) (breaks d es path))

-- ---- Breaks of a path

module _ (d : DataLists) (es : List Entry) (forward : AreForward es) where
  -- they rise to its end
  pub Ascends-breaks : (from to : ℕ) (path : List ℕ) → from < to → IsPath es from to path → Ascends from to (breaks d es path)
  Ascends-breaks from to [] short joined = absurd (omega (arith, joined))
  Ascends-breaks from to (o ∷ []) short joined =
      let this : (entry es o).begin < (entry es o).end = forward o joined.0 in
      let begins = joined.1 in
      (omega (arith, this, begins), joined.2)
  Ascends-breaks from to (o ∷ (next ∷ path)) short joined =
      let this : (entry es o).begin < (entry es o).end = forward o joined.0 in
      let begins = joined.1 in
      let rest = joined.2 in
      let next_forward : (entry es next).begin < (entry es next).end = forward next rest.0 in
      let next_begins = rest.1 in
      let last : (entry es next).end ≤ to = IsPath-forward es forward (entry es next).end to path rest.2 in
      let further : (entry es o).end < to = omega (arith, next_forward, next_begins, last) in
      by_test o next path from to (omega (arith, this, begins)) further (goes_on d es o (next ∷ path)) (Ascends-breaks (entry es o).end to (next ∷ path) further rest)
    where
      by_test : (o next : ℕ) (path : List ℕ) (from to : ℕ) → from < (entry es o).end → (entry es o).end < to → (b : Bool) → Ascends (entry es o).end to (breaks d es (next ∷ path)) → Ascends from to (cond b (breaks d es (next ∷ path)) ((entry es o).end ∷ breaks d es (next ∷ path)))
      by_test o next path from to ahead further true rest =
          Ascends-lower from (entry es o).end to (breaks d es (next ∷ path)) (omega (arith, ahead)) further rest
      by_test o next path from to ahead further _ rest = (ahead, rest)

-- ---- The cuts of a lattice's path

pub from_all : {X : Type 0} (P : X → Type 0) (xs : List X) → All P xs → (x : X) → Among x xs → P x
from_all P xs h x k = let r = place_of x xs k in subst P (r.2 x) (h r.0 x r.1)

module _ (d : DataLists) (l : Lattice) (well : IsWellFormed d l) where
  pub bound-inside : (x : ℕ) → Among x l.bounds → (0 < x) × (x ≤ length l.key)
  bound-inside x h =
      from_all (λ bound. (0 < bound) × (bound ≤ length l.key)) l.bounds well.bounds.inside x h

  module _ (path : List ℕ) (joined : IsPathOver l.entries (whole l 0) path) where
    -- the segments' ends rise to the key's end
    pub Ascends-segment_ends : Ascends 0 (length l.key) (segment_ends d l.entries l.bounds path)
    Ascends-segment_ends =
        Ascends-append 0 last (length l.key) l.bounds (filter (nat_lt last) (breaks d l.entries path)) (Ascends-bounds 0 l.bounds (λ some. (well.bounds.inside 0 0 some).0) well.bounds.rising) (Ascends-filter last 0 (length l.key) (breaks d l.entries path) (omega arith) inside broken)
      where
        last : ℕ
        last = last_bound l.bounds

        inside : last ≤ length l.key
        inside = last-le 0 (length l.key) l.bounds (omega arith) (λ x h. (bound-inside x h).1)

        broken : Ascends 0 (length l.key) (breaks d l.entries path)
        broken =
            Ascends-breaks d l.entries (AreForward-from_well d l well) 0 (length l.key) path well.key.some joined

    pub cut-touches : AreTouching 0 (length l.key) (cut d l.entries l.bounds path)
    unfolding cut
    cut-touches =
        AreTouching-ascends 0 (length l.key) (segment_ends d l.entries l.bounds path) Ascends-segment_ends

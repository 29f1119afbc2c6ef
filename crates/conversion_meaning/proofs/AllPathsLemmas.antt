-- The list of all paths has each path once.
use Rattle.std.proofs.Common.{◌≡◌, sym, ◌∙◌, ℕ, zero, suc, ◌+◌, ◌-◌, Bool, true, cond, eqb, inl, inr, List, [], ◌∷◌, map, length, arith}
use Rattle.std.specs.Prelude.{◌≢◌}
use Rattle.std.specs.List.{All, AllPairs, Contains, filter, flat_map, range_with_len}
use Rattle.mz_base.specs.Data.{DataLists}
use Rattle.mz_base.specs.declared.lattice.Entry.{Entry}
use Rattle.mz_base.specs.declared.lattice.Lattice.{Lattice}
use Rattle.mz_base.specs.declared.lattice.Span.{Span}
use Rattle.conversion_meaning.specs.AllPaths.{all_paths, empty_path, ordinals_from, paths_within}
use Rattle.conversion_meaning.specs.Lattices.{IsWellFormed, entry}
use Rattle.conversion_meaning.specs.Paths.{IsPathOver}
use Rattle.conversion_meaning.proofs.BestLemmas.{AreForward-from_well}
use Rattle.conversion_meaning.proofs.Lists.{Among, All-from_among, AllPairs-from_rises, Rises, Rises-append, from_filter, from_flat_map, from_map, from_range, place_of}
use Rattle.conversion_meaning.proofs.PathLemmas.{Among-all_paths, from_all_paths}

pub Contains-all_paths : (d : DataLists) (l : Lattice) (span : Span) (path : List ℕ) → IsWellFormed d l → IsPathOver l.entries span path → Contains (all_paths l.entries span) path
Contains-all_paths d l span path well joined =
    let r = place_of path (all_paths l.entries span) (Among-all_paths l.entries span path (AreForward-from_well d l well) joined) in
    (r.0, r.1, r.2 path)

pub All-all_paths : (es : List Entry) (span : Span) → All (IsPathOver es span) (all_paths es span)
All-all_paths es span =
    All-from_among (IsPathOver es span) (all_paths es span) (from_all_paths es span)

abbrev Differ : {X : Type 0} → X → X → Type 0
Differ x y = x ≢ y

Rises-range : (a n : ℕ) → Rises Differ (range_with_len a n)
Rises-range a zero = tt
Rises-range a (suc n) =
    (λ y h same. (let r = from_range (a + 1) n y h in absurd (omega (arith, same, r.0))), Rises-range (a + 1) n)

pub Rises-filter : {X : Type 0} (R : X → X → Type 0) (p : X → Bool) (xs : List X) → Rises R xs → Rises R (filter p xs)
Rises-filter R p [] h = tt
Rises-filter {X} R p (x ∷ xs) h = by_test (p x) (Rises-filter R p xs h.1)
  where
    by_test : (b : Bool) → Rises R (filter p xs) → Rises R (cond b (x ∷ filter p xs) (filter p xs))
    by_test true rest = (λ y k. h.0 y (from_filter p y xs k).0, rest)
    by_test _ rest = rest

pub Rises-map : {X Y : Type 0} (f : X → Y) (xs : List X) → ((x y : X) → f x ≡ f y → x ≡ y) → Rises Differ xs → Rises Differ (map f xs)
Rises-map f [] one h = tt
Rises-map {X} {Y} f (x ∷ xs) one h = (ahead, Rises-map f xs one h.1)
  where
    ahead : (y : Y) → Among y (map f xs) → f x ≢ y
    ahead y k same =
        let r = from_map f y xs k in h.0 r.0 r.1 (one x r.0 (same ∙ sym r.2))

Rises-flat_map_of : {X Y : Type 0} (R : Y → Y → Type 0) (f : X → List Y) (xs : List X) → Rises Differ xs → ((x : X) → Rises R (f x)) → ((x y : X) (a b : Y) → x ≢ y → Among a (f x) → Among b (f y) → R a b) → Rises R (flat_map f xs)
Rises-flat_map_of R f [] h within across = tt
Rises-flat_map_of {X} {Y} R f (x ∷ xs) h within across =
    Rises-append R (f x) (flat_map f xs) (within x) (Rises-flat_map_of R f xs h.1 within across) later
  where
    later : (a b : Y) → Among a (f x) → Among b (flat_map f xs) → R a b
    later a b j k =
        let r = from_flat_map f b xs k in across x r.0 a b (h.0 r.0 r.1) j r.2

Rises-empty_path : (from to : ℕ) → Rises Differ (empty_path from to)
Rises-empty_path from to = by_test (eqb from to)
  where
    by_test : (b : Bool) → Rises {X = List ℕ} Differ (cond b ([] ∷ []) [])
    by_test true = (λ y h. absurd h, tt)
    by_test _ = tt

from_empty : (from to : ℕ) (path : List ℕ) → Among path (empty_path from to) → [] ≡ path
from_empty from to path h = by_test (eqb from to) h
  where
    by_test : (b : Bool) → Among path (cond b ([] ∷ []) []) → [] ≡ path
    by_test true (inl same) = same
    by_test true (inr none) = absurd none
    by_test _ none = absurd none

Rises-paths_within : (es : List Entry) (most from to : ℕ) → Rises Differ (paths_within most es from to)
Rises-paths_within es zero from to = Rises-empty_path from to
Rises-paths_within es (suc most) from to =
    let longer : ℕ → List (List ℕ) = λ o. map (λ path. o ∷ path) (paths_within most es (entry es o).end to) in
    Rises-append Differ (empty_path from to) (flat_map longer (ordinals_from es from)) (Rises-empty_path from to) (Rises-flat_map_of Differ longer (ordinals_from es from) (Rises-filter Differ (λ o. eqb (entry es o).begin from) (range_with_len 0 (length es)) (Rises-range 0 (length es))) (λ o. Rises-map (λ path. o ∷ path) (paths_within most es (entry es o).end to) (λ p q same. cc) (Rises-paths_within es most (entry es o).end to)) across) apart
  where
    across : (x y : ℕ) (a b : List ℕ) → x ≢ y → Among a (map (λ path. x ∷ path) (paths_within most es (entry es x).end to)) → Among b (map (λ path. y ∷ path) (paths_within most es (entry es y).end to)) → a ≢ b
    across x y a b differ h k same =
        let r = from_map (λ path. x ∷ path) a (paths_within most es (entry es x).end to) h in
        let q = from_map (λ path. y ∷ path) b (paths_within most es (entry es y).end to) k in
        let e : x ∷ r.0 ≡ y ∷ q.0 = r.2 ∙ (same ∙ sym q.2) in
        differ (let f : x ≡ y = cc in f)

    apart : (a b : List ℕ) → Among a (empty_path from to) → Among b (flat_map (λ o. map (λ path. o ∷ path) (paths_within most es (entry es o).end to)) (ordinals_from es from)) → a ≢ b
    apart a b h k same =
        let none = from_empty from to a h in
        let r = from_flat_map (λ o. map (λ path. o ∷ path) (paths_within most es (entry es o).end to)) b (ordinals_from es from) k in
        let q = from_map (λ path. r.0 ∷ path) b (paths_within most es (entry es r.0).end to) r.2 in
        let e : [] ≡ r.0 ∷ q.0 = none ∙ (same ∙ sym q.2) in
        cc

pub Rises-all_paths : (es : List Entry) (span : Span) → Rises Differ (all_paths es span)
unfolding all_paths
Rises-all_paths es span =
    Rises-paths_within es (span.end - span.begin) span.begin span.end

pub AllPairs-all_paths : (es : List Entry) (span : Span) → AllPairs (λ p q. p ≢ q) (all_paths es span)
AllPairs-all_paths es span =
    AllPairs-from_rises Differ (all_paths es span) (Rises-all_paths es span)

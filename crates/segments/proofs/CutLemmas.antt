-- Steps of a cut.
use Rattle.std.proofs.Common.{◌≡◌, refl, ap, ◌∙◌, ℕ, ◌<◌, Bool, true, false, cond, List, [], ◌∷◌, ◌++◌, Some, None, length, All, arith}
use Rattle.std.specs.Prelude.{◌&&◌, filter, nat_lt, not, slice_get}
use Rattle.std.proofs.lemmas.List.Elements.{All-cons}
use Rattle.mz_base.specs.Data.{DataLists, joins}
use Rattle.mz_base.specs.declared.lattice.Entry.{Entry}
use Rattle.conversion_meaning.specs.Lattices.{entry}
use Rattle.conversion_meaning.specs.Paths.{IsPath}
use Rattle.conversion_meaning.specs.Segments.{breaks, goes_on, last_bound, segment_ends}

-- the ordinals of a path are there
pub All-ordinals : (es : List Entry) (from to : ℕ) (path : List ℕ) → IsPath es from to path → All (λ o. o < length es) path
All-ordinals es from to [] joined = λ k d inside. absurd (omega arith)
All-ordinals es from to (o ∷ path) joined =
    All-cons (λ o. o < length es) o path joined.0 (All-ordinals es (entry es o).end to path joined.2)

-- the breaks past a position, from an entry on
pub breaks-cons : (d : DataLists) (es : List Entry) (last o : ℕ) (path : List ℕ) (b : Bool) → b ≡ (nat_lt last (entry es o).end && not (goes_on d es o path)) → filter (nat_lt last) (breaks d es (o ∷ path)) ≡ cond b ((entry es o).end ∷ filter (nat_lt last) (breaks d es path)) (filter (nat_lt last) (breaks d es path))
breaks-cons d es last o path b is =
    rw is (by_tests d es last o path (goes_on d es o path))
  where
    by_tests : (d : DataLists) (es : List Entry) (last o : ℕ) (path : List ℕ) (goes : Bool) → filter (nat_lt last) (cond goes (breaks d es path) ((entry es o).end ∷ breaks d es path)) ≡ cond (nat_lt last (entry es o).end && not goes) ((entry es o).end ∷ filter (nat_lt last) (breaks d es path)) (filter (nat_lt last) (breaks d es path))
    by_tests d es last o path true =
        elim (nat_lt last (entry es o).end) as (λ b. filter (nat_lt last) (breaks d es path) ≡ cond (b && false) ((entry es o).end ∷ filter (nat_lt last) (breaks d es path)) (filter (nat_lt last) (breaks d es path))) [ true ↦ refl | false ↦ refl ]
    by_tests d es last o path false =
        elim (nat_lt last (entry es o).end) as (λ b. cond b ((entry es o).end ∷ filter (nat_lt last) (breaks d es path)) (filter (nat_lt last) (breaks d es path)) ≡ cond (b && true) ((entry es o).end ∷ filter (nat_lt last) (breaks d es path)) (filter (nat_lt last) (breaks d es path))) [ true ↦ refl | false ↦ refl ]

-- whether the path goes on, by the first ordinal that follows
pub goes_on-none : (d : DataLists) (es : List Entry) (o : ℕ) (rest : List ℕ) → None ≡ slice_get rest 0 → false ≡ goes_on d es o rest
goes_on-none d es o [] is = refl
goes_on-none d es o (next ∷ rest) is = absurd (cc)

pub goes_on-some : (d : DataLists) (es : List Entry) (o : ℕ) (rest : List ℕ) (next : ℕ) → Some next ≡ slice_get rest 0 → goes_on d es o rest ≡ joins d (entry es o).rid (entry es next).lid
goes_on-some d es o [] next is = absurd (cc)
goes_on-some d es o (x ∷ rest) next is =
    let same : x ≡ next = cc in
    ap (λ n. joins d (entry es o).rid (entry es n).lid) same

-- the bounds, and then the breaks past the last one
pub segment_ends-is : (d : DataLists) (es : List Entry) (bounds path slice ends made : List ℕ) (last : ℕ) → made ≡ ends ++ filter (nat_lt last) (breaks d es path) → ends ≡ slice → last ≡ last_bound slice → slice ≡ bounds → made ≡ segment_ends d es bounds path
segment_ends-is d es bounds path slice ends made last made_is ends_are last_is slice_is =
    made_is ∙ (ap (λ xs. xs ++ filter (nat_lt last) (breaks d es path)) ends_are ∙ (ap (λ n. slice ++ filter (nat_lt n) (breaks d es path)) last_is ∙ ap (λ xs. segment_ends d es xs path) slice_is))

-- The values of an answer's segments: none twice, and some.
use Rattle.std.proofs.Common.{subst, ℕ, zero, suc, ◌<◌, List, [], ◌∷◌, length, map, take, arith}
use Rattle.std.specs.Prelude.{◌≢◌}
use Rattle.std.specs.List.{All, AllPairs}
use Rattle.mz_base.specs.Data.{DataLists, AreDataSound}
use Rattle.mz_base.specs.declared.conversion.Segment.{Segment}
use Rattle.mz_base.specs.declared.lattice.Candidate.{Candidate}
use Rattle.mz_base.specs.declared.lattice.Entry.{Entry}
use Rattle.mz_base.specs.declared.lattice.Lattice.{Lattice}
use Rattle.mz_base.specs.declared.lattice.Pair.{Pair}
use Rattle.mz_base.specs.declared.lattice.Span.{Span}
use Rattle.mz_base.specs.declared.user.UserRow.{UserRow}
use Rattle.conversion_meaning.specs.Answers.{answer, first_answer, segment_of}
use Rattle.conversion_meaning.specs.Candidates.{candidate_of, first_of_each, first_values}
use Rattle.conversion_meaning.specs.Entries.{entries}
use Rattle.conversion_meaning.specs.Firsts.{firsts}
use Rattle.conversion_meaning.specs.InOrder.{paths_in_order}
use Rattle.conversion_meaning.specs.Lattices.{AreBounds, IsKey, IsWellFormed}
use Rattle.conversion_meaning.specs.Paths.{IsSpan}
use Rattle.conversion_meaning.specs.Segments.{cut, span_between}
use Rattle.conversion_meaning.specs.declared.candidates.TheConstants.{MOST_PATHS, MOST_VALUES}
use Rattle.conversion_meaning.proofs.BestLemmas.{AreForward-from_well, IsBest-in}
use Rattle.conversion_meaning.proofs.CandidateLemmas.{Rises-values}
use Rattle.conversion_meaning.proofs.CutLemmas.{from_all}
use Rattle.conversion_meaning.proofs.CutParts.{cut-parts_are_spans}
use Rattle.conversion_meaning.proofs.InOrderLemmas.{Among-paths_in_order}
use Rattle.conversion_meaning.proofs.Lists.{AllPairs-from_rises, All-from_among, Among, from_map}
use Rattle.conversion_meaning.proofs.RuleLemmas.{AreOnce-rewritten_by, among-some, some-rewritten_by}
use Rattle.conversion_meaning.proofs.SegmentLemmas.{IsWellFormed-key, first_path-joined}
use Rattle.conversion_meaning.proofs.SomeLattice.{some_lattice}

-- what each segment has that is made of a part
pub All-segments : (d : DataLists) (rows : List UserRow) (history : List Pair) (rules key bounds : List ℕ) (P : Segment → Type 0) → ((part : ℕ × ℕ) → Among part (cut d (entries d rows key bounds) bounds (first_answer d rows key bounds).path) → P (segment_of d rows history rules key (entries d rows key bounds) (first_answer d rows key bounds).path part)) → All P (answer d rows history rules key bounds).segments
unfolding answer
All-segments d rows history rules key bounds P each =
    All-from_among P (map made parts) (λ s h. (let r = from_map made s parts h in subst P r.2 (each r.0 r.1)))
  where
    made : ℕ × ℕ → Segment
    made = segment_of d rows history rules key (entries d rows key bounds) (first_answer d rows key bounds).path

    parts : List (ℕ × ℕ)
    parts = cut d (entries d rows key bounds) bounds (first_answer d rows key bounds).path

-- no value comes twice
pub segment_values-once : (d : DataLists) (rows : List UserRow) (history : List Pair) (rules key bounds : List ℕ) → All (λ (segment : Segment). AllPairs (λ (candidate later : Candidate). candidate.value ≢ later.value) segment.candidates) (answer d rows history rules key bounds).segments
segment_values-once d rows history rules key bounds =
    All-segments d rows history rules key bounds (λ (segment : Segment). AllPairs (λ (candidate later : Candidate). candidate.value ≢ later.value) segment.candidates) (λ part h. AllPairs-from_rises (λ (candidate later : Candidate). candidate.value ≢ later.value) _ (AreOnce-rewritten_by rules _ (first_values d rows key (entries d rows key bounds) (span_between (entries d rows key bounds) (first_answer d rows key bounds).path part)) (Rises-values d rows key (entries d rows key bounds) (span_between (entries d rows key bounds) (first_answer d rows key bounds).path part))))

take-some : {X : Type 0} (n : ℕ) (xs : List X) → 0 < n → 0 < length xs → 0 < length (take n xs)
take-some zero xs low some = absurd (omega arith)
take-some (suc n) [] low some = absurd (omega arith)
take-some (suc n) (x ∷ xs) low some = omega arith

map-some : {X Y : Type 0} (f : X → Y) (xs : List X) → 0 < length xs → 0 < length (map f xs)
map-some f [] some = absurd (omega arith)
map-some f (x ∷ xs) some = omega arith

firsts-some : (xs : List Candidate) → 0 < length xs → 0 < length (first_of_each xs)
unfolding firsts
firsts-some [] some = absurd (omega arith)
firsts-some (x ∷ xs) some = omega arith

-- a span has a value
pub first_values-some : (d : DataLists) (rows : List UserRow) (key : List ℕ) (l : Lattice) (span : Span) → IsWellFormed d l → IsSpan d l span → 0 < length (first_values d rows key l.entries span)
unfolding first_values
first_values-some d rows key l span well is =
    let r = IsBest-in d l span well is in
    let paths = among-some r.0 (paths_in_order d l.entries span) (Among-paths_in_order d l.entries span (AreForward-from_well d l well) r.0 r.1.joined) in
    let some = take-some MOST_PATHS (paths_in_order d l.entries span) (omega arith) paths in
    let mapped = map-some (candidate_of d rows key l.entries span) (take MOST_PATHS (paths_in_order d l.entries span)) some in
    take-some MOST_VALUES (first_of_each (map (candidate_of d rows key l.entries span) (take MOST_PATHS (paths_in_order d l.entries span)))) (omega arith) (firsts-some (map (candidate_of d rows key l.entries span) (take MOST_PATHS (paths_in_order d l.entries span))) mapped)

-- no list is empty
pub segments-have_values : (d : DataLists) (rows : List UserRow) (history : List Pair) (rules key bounds : List ℕ) → AreDataSound d → IsKey key → AreBounds key bounds → All (λ (segment : Segment). 0 < length segment.candidates) (answer d rows history rules key bounds).segments
segments-have_values d rows history rules key bounds sound is are =
    All-segments d rows history rules key bounds (λ (segment : Segment). 0 < length segment.candidates) some
  where
    es : List Entry
    es = entries d rows key bounds

    path : List ℕ
    path = (first_answer d rows key bounds).path

    well : IsWellFormed d (some_lattice d rows key bounds)
    well = IsWellFormed-key d rows key bounds sound is are

    some : (part : ℕ × ℕ) → Among part (cut d es bounds path) → 0 < length (segment_of d rows history rules key es path part).candidates
    some part h =
        let span = from_all (λ (p : ℕ × ℕ). IsSpan d (some_lattice d rows key bounds) (span_between es path p)) (cut d es bounds path) (cut-parts_are_spans d (some_lattice d rows key bounds) well path (first_path-joined d rows key bounds sound is are) sound.some_ids) part h in
        some-rewritten_by rules _ (first_values d rows key es (span_between es path part)) (first_values-some d rows key (some_lattice d rows key bounds) (span_between es path part) well span)

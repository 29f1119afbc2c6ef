-- The laws of segments, on which sessions rest: docs/CONVERSION.md, "Segments".
use Rattle.std.specs.Prelude.{◌≡◌, ◌≢◌, ℕ, ◌<◌, List, [], ◌∷◌, All, AllPairs, length, map, take, IfSome}
use Rattle.std.specs.List.{flat_map, slice_get}
use Rattle.mz_base.specs.Data.{DataLists, AreDataSound}
use Rattle.mz_base.specs.declared.conversion.Segment.{Segment}
use Rattle.mz_base.specs.declared.lattice.Candidate.{Candidate}
use Rattle.mz_base.specs.declared.lattice.Entry.{Entry}
use Rattle.mz_base.specs.declared.lattice.Lattice.{Lattice}
use Rattle.mz_base.specs.declared.lattice.Pair.{Pair}
use Rattle.mz_base.specs.declared.user.UserRow.{UserRow}
use Rattle.conversion_meaning.specs.Answers.{answer, first_answer}
use Rattle.conversion_meaning.specs.Candidates.{path_value}
use Rattle.conversion_meaning.specs.Entries.{entries}
use Rattle.conversion_meaning.specs.Lattices.{AreBounds, IsKey, IsWellFormed}
use Rattle.conversion_meaning.specs.Paths.{IsPath, IsPathOver, IsSpan, whole}
use Rattle.conversion_meaning.specs.Segments.{cut, parts_from, path_in, span_between}

-- ---- Cutting

-- each part has a character, and they touch, from one position to another
abbrev pub AreTouching : ℕ → ℕ → List (ℕ × ℕ) → Type 0
AreTouching from to [] = from ≡ to
AreTouching from to (part ∷ parts) = (part.0 ≡ from) × (part.0 < part.1) × AreTouching part.1 to parts

-- the segments of a path touch, from the key's begin to its end
abbrev pub CutTouches : Type 0
CutTouches =
    (d : DataLists) (l : Lattice) (path : List ℕ) → IsWellFormed d l → IsPathOver l.entries (whole l 0) path → AreTouching 0 (length l.key) (cut d l.entries l.bounds path)

-- up to the last bound they are the parts between bounds
abbrev pub CutKeepsBounds : Type 0
CutKeepsBounds =
    (d : DataLists) (es : List Entry) (bounds path : List ℕ) → take (length bounds) (cut d es bounds path) ≡ parts_from 0 bounds

-- no entry of the path crosses a cut: its entries inside each segment lead from the segment's begin to its end
abbrev pub CutPartsArePaths : Type 0
CutPartsArePaths =
    (d : DataLists) (l : Lattice) (path : List ℕ) → IsWellFormed d l → IsPathOver l.entries (whole l 0) path → All (λ (part : ℕ × ℕ). IsPath l.entries part.0 part.1 (path_in l.entries path part)) (cut d l.entries l.bounds path)

-- and together they are the path
abbrev pub CutPartsAreAll : Type 0
CutPartsAreAll =
    (d : DataLists) (l : Lattice) (path : List ℕ) → IsWellFormed d l → IsPathOver l.entries (whole l 0) path → flat_map (path_in l.entries path) (cut d l.entries l.bounds path) ≡ path

-- the part between the ids on its borders is a span
abbrev pub CutPartsAreSpans : Type 0
CutPartsAreSpans =
    (d : DataLists) (l : Lattice) (path : List ℕ) → 0 < d.ids → IsWellFormed d l → IsPathOver l.entries (whole l 0) path → All (λ (part : ℕ × ℕ). IsSpan d l (span_between l.entries path part)) (cut d l.entries l.bounds path)

-- ---- Answers

-- the part of the key that a segment stands for
abbrev pub part_of : Segment → ℕ × ℕ
part_of segment = (segment.begin, segment.end)

-- the segments of an answer touch, from the key's begin to its end
abbrev pub SegmentsTouch : Type 0
SegmentsTouch =
    (d : DataLists) (rows : List UserRow) (history : List Pair) (rules key bounds : List ℕ) → AreDataSound d → IsKey key → AreBounds key bounds → AreTouching 0 (length key) (map part_of (answer d rows history rules key bounds).segments)

-- so there is one
abbrev pub SegmentsAreSome : Type 0
SegmentsAreSome =
    (d : DataLists) (rows : List UserRow) (history : List Pair) (rules key bounds : List ℕ) → AreDataSound d → IsKey key → AreBounds key bounds → 0 < length (answer d rows history rules key bounds).segments

-- up to the last bound they are the parts between bounds
abbrev pub SegmentsKeepBounds : Type 0
SegmentsKeepBounds =
    (d : DataLists) (rows : List UserRow) (history : List Pair) (rules key bounds : List ℕ) → take (length bounds) (map part_of (answer d rows history rules key bounds).segments) ≡ parts_from 0 bounds

-- no list is empty
abbrev pub SegmentsHaveValues : Type 0
SegmentsHaveValues =
    (d : DataLists) (rows : List UserRow) (history : List Pair) (rules key bounds : List ℕ) → AreDataSound d → IsKey key → AreBounds key bounds → All (λ (segment : Segment). 0 < length segment.candidates) (answer d rows history rules key bounds).segments

-- and no value comes twice in it
abbrev pub SegmentValuesAreOnce : Type 0
SegmentValuesAreOnce =
    (d : DataLists) (rows : List UserRow) (history : List Pair) (rules key bounds : List ℕ) → All (λ (segment : Segment). AllPairs (λ (candidate later : Candidate). candidate.value ≢ later.value) segment.candidates) (answer d rows history rules key bounds).segments

-- before any rule the first value of a segment is that of the first answer's path there
abbrev pub SegmentsBeginWithThePath : Type 0
SegmentsBeginWithThePath =
    (d : DataLists) (rows : List UserRow) (history : List Pair) (key bounds : List ℕ) → AreDataSound d → IsKey key → AreBounds key bounds → All (λ (segment : Segment). IfSome (slice_get segment.candidates 0) (λ (candidate : Candidate). candidate.value ≡ path_value d rows key (entries d rows key bounds) (path_in (entries d rows key bounds) (first_answer d rows key bounds).path (part_of segment)))) (answer d rows history [] key bounds).segments

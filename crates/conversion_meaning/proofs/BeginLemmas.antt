-- Before any rule a segment begins with the value of the path's part.
use Rattle.std.proofs.Common.{◌≡◌, refl, sym, ap, ◌∙◌, subst, ℕ, zero, suc, ◌<◌, ◌≤◌, List, [], ◌∷◌, ◌++◌, length, get_or, map, take, arith}
use Rattle.std.specs.Prelude.{IfSome, slice_get}
use Rattle.std.specs.List.{All}
use Rattle.mz_base.specs.Data.{DataLists, AreDataSound}
use Rattle.mz_base.specs.declared.conversion.Segment.{Segment}
use Rattle.mz_base.specs.declared.lattice.Candidate.{Candidate}
use Rattle.mz_base.specs.declared.lattice.Entry.{Entry}
use Rattle.mz_base.specs.declared.lattice.Lattice.{Lattice}
use Rattle.mz_base.specs.declared.lattice.Pair.{Pair}
use Rattle.mz_base.specs.declared.lattice.Span.{Span}
use Rattle.mz_base.specs.declared.user.UserRow.{UserRow}
use Rattle.conversion_meaning.specs.Answers.{answer, first_answer}
use Rattle.conversion_meaning.specs.Best.{IsBest}
use Rattle.conversion_meaning.specs.Candidates.{candidate_of, first_of_each, first_values, path_value}
use Rattle.conversion_meaning.specs.Entries.{entries}
use Rattle.conversion_meaning.specs.Firsts.{firsts}
use Rattle.conversion_meaning.specs.InOrder.{best_path, paths_in_order}
use Rattle.conversion_meaning.specs.Lattices.{AreBounds, IsKey, IsWellFormed}
use Rattle.conversion_meaning.specs.Paths.{IsPath, whole}
use Rattle.conversion_meaning.specs.SegmentLaws.{part_of}
use Rattle.conversion_meaning.specs.Segments.{cut, path_in, segment_ends, span_between}
use Rattle.conversion_meaning.specs.declared.candidates.TheConstants.{MOST_PATHS, MOST_VALUES}
use Rattle.conversion_meaning.proofs.AnswerLemmas.{IsFirstAnswer-first_answer}
use Rattle.conversion_meaning.proofs.BestLemmas.{AreForward-from_well}
use Rattle.conversion_meaning.proofs.CutLemmas.{Ascends-segment_ends, from_all}
use Rattle.conversion_meaning.proofs.CutParts.{All-parts, IsUncrossed-end, IsUncrossed-start}
use Rattle.conversion_meaning.proofs.Duality.{AreForward}
use Rattle.conversion_meaning.proofs.InOrderLemmas.{IsBest-is_first}
use Rattle.conversion_meaning.proofs.Lists.{Among}
use Rattle.conversion_meaning.proofs.PartLemmas.{IsPath-path_in, IsPath-path_from, IsUncrossed, path_from, path_from-all, path_in-append}
use Rattle.conversion_meaning.proofs.PartOfBest.{IsBest-part, id_after-is, id_before-is, lid_before, rid_after}
use Rattle.conversion_meaning.proofs.SegmentLemmas.{IsLatticeOf-key, IsWellFormed-key}
use Rattle.conversion_meaning.proofs.SegmentValues.{All-segments}
use Rattle.conversion_meaning.proofs.SomeLattice.{some_lattice}

-- ---- The first of a list

-- the first element, if there is one
abbrev Begins : {X : Type 0} → (X → Type 0) → List X → Type 0
Begins P xs = IfSome (slice_get xs 0) P

begins-take : {X : Type 0} (P : X → Type 0) (n : ℕ) (xs : List X) → Begins P xs → Begins P (take n xs)
begins-take P zero [] h = tt
begins-take P zero (x ∷ xs) h = tt
begins-take P (suc n) [] h = tt
begins-take P (suc n) (x ∷ xs) h = h

begins-map : {X Y : Type 0} (P : Y → Type 0) (f : X → Y) (xs : List X) → Begins (λ x. P (f x)) xs → Begins P (map f xs)
begins-map P f [] h = tt
begins-map P f (x ∷ xs) h = h

begins-firsts : (P : Candidate → Type 0) (xs : List Candidate) → Begins P xs → Begins P (first_of_each xs)
unfolding firsts
begins-firsts P [] h = tt
begins-firsts P (x ∷ xs) h = h

begins-itself : (xs : List (List ℕ)) → Begins (λ x. x ≡ get_or xs 0 []) xs
begins-itself [] = tt
begins-itself (x ∷ xs) = refl

begins-with_best : (d : DataLists) (es : List Entry) (span : Span) → Begins (λ path. path ≡ best_path d es span) (paths_in_order d es span)
unfolding best_path
begins-with_best d es span = begins-itself (paths_in_order d es span)

-- the values of a span begin with that of the best path
begins-with_value : (d : DataLists) (rows : List UserRow) (key : List ℕ) (es : List Entry) (span : Span) (path : List ℕ) → path ≡ best_path d es span → Begins (λ (candidate : Candidate). candidate.value ≡ path_value d rows key es path) (first_values d rows key es span)
unfolding first_values
begins-with_value d rows key es span path is =
    begins-take HasValue MOST_VALUES (first_of_each candidates) (begins-firsts HasValue candidates (begins-map HasValue (candidate_of d rows key es span) (take MOST_PATHS (paths_in_order d es span)) (begins-take (λ p. HasValue (candidate_of d rows key es span p)) MOST_PATHS (paths_in_order d es span) first)))
  where
    HasValue : Candidate → Type 0
    HasValue candidate = candidate.value ≡ path_value d rows key es path

    candidates : List Candidate
    candidates = map (candidate_of d rows key es span) (take MOST_PATHS (paths_in_order d es span))

    of_best : (paths : List (List ℕ)) → Begins (λ p. p ≡ best_path d es span) paths → Begins (λ p. HasValue (candidate_of d rows key es span p)) paths
    of_best [] h = tt
    of_best (p ∷ paths) h = ap (path_value d rows key es) (h ∙ sym is)

    first : Begins (λ p. HasValue (candidate_of d rows key es span p)) (paths_in_order d es span)
    first = of_best (paths_in_order d es span) (begins-with_best d es span)

-- ---- The part of the best path

module _ (d : DataLists) (l : Lattice) (well : IsWellFormed d l) (path : List ℕ) (best : IsBest d l.entries (whole l 0) path) where
  forward : AreForward l.entries
  forward = AreForward-from_well d l well

  -- between positions that no entry of it crosses it is the best path
  part-is_best : (x y : ℕ) → IsUncrossed l.entries x path → IsUncrossed l.entries y path → x < y → y ≤ length l.key → path_in l.entries path (x, y) ≡ best_path d l.entries (span_between l.entries path (x, y))
  part-is_best x y first second some last =
      IsBest-is_first d es (span_between es path (x, y)) forward m (IsBest-part d es forward (whole l 0) (span_between es path (x, y)) a b left right m before inside after (subst (λ p. IsBest d es (whole l 0) p) (sym three) best))
    where
      es : List Entry
      es = l.entries

      a : List ℕ
      a = path_in l.entries path (0, x)

      m : List ℕ
      m = path_in l.entries path (x, y)

      b : List ℕ
      b = path_from l.entries path y

      joined : IsPath l.entries 0 (length l.key) path
      joined = best.joined

      before : IsPath l.entries 0 x (path_in l.entries path (0, x))
      before =
          IsPath-path_in l.entries forward 0 x 0 (length l.key) path (omega arith) (omega arith) (omega (arith, some, last)) (start) first joined
        where
          start : IsUncrossed l.entries 0 path
          start = IsUncrossed-start d l well path joined

      inside : IsPath l.entries x y (path_in l.entries path (x, y))
      inside =
          IsPath-path_in l.entries forward x y 0 (length l.key) path (omega arith) (omega (arith, some)) last first second joined

      after : IsPath l.entries y (length l.key) (path_from l.entries path y)
      after = IsPath-path_from l.entries forward y 0 (length l.key) path (omega arith) last second joined

      later : path_in l.entries path (x, y) ++ path_from l.entries path y ≡ path_from l.entries path x
      later = path_in-append l.entries forward x y 0 (length l.key) path (omega (arith, some)) second joined

      all : path_in l.entries path (0, x) ++ path_from l.entries path x ≡ path
      all =
          path_in-append l.entries forward 0 x 0 (length l.key) path (omega arith) first joined ∙ path_from-all l.entries forward 0 0 (length l.key) path (omega arith) joined

      three : path_in l.entries path (0, x) ++ (path_in l.entries path (x, y) ++ path_from l.entries path y) ≡ path
      three = ap (λ p. path_in l.entries path (0, x) ++ p) later ∙ all

      rest : IsPath l.entries x (length l.key) (path_from l.entries path x)
      rest = IsPath-path_from l.entries forward x 0 (length l.key) path (omega arith) (omega (arith, some, last)) first joined

      left : (span_between l.entries path (x, y)).left ≡ rid_after d l.entries 0 (path_in l.entries path (0, x))
      left =
          subst (λ p. (span_between l.entries p (x, y)).left ≡ rid_after d l.entries 0 (path_in l.entries path (0, x))) all (id_before-is l.entries forward d 0 x (length l.key) (path_in l.entries path (0, x)) (path_from l.entries path x) before rest)

      until : IsPath l.entries 0 y (path_in l.entries path (0, y))
      until =
          IsPath-path_in l.entries forward 0 y 0 (length l.key) path (omega arith) (omega arith) last (IsUncrossed-start d l well path joined) second joined

      both : path_in l.entries path (0, y) ++ path_from l.entries path y ≡ path
      both =
          path_in-append l.entries forward 0 y 0 (length l.key) path (omega arith) second joined ∙ path_from-all l.entries forward 0 0 (length l.key) path (omega arith) joined

      right : (span_between l.entries path (x, y)).right ≡ lid_before d l.entries 0 (path_from l.entries path y)
      right =
          subst (λ p. (span_between l.entries p (x, y)).right ≡ lid_before d l.entries 0 (path_from l.entries path y)) both (id_after-is l.entries forward d 0 y (length l.key) (path_in l.entries path (0, y)) (path_from l.entries path y) until after)

  pub All-best : All (λ (part : ℕ × ℕ). path_in l.entries path part ≡ best_path d l.entries (span_between l.entries path part)) (cut d l.entries l.bounds path)
  unfolding cut
  All-best =
      All-parts (λ (part : ℕ × ℕ). path_in l.entries path part ≡ best_path d l.entries (span_between l.entries path part)) (λ x. IsUncrossed l.entries x path) (length l.key) part-is_best 0 (segment_ends d l.entries l.bounds path) (IsUncrossed-start d l well path best.joined) (IsUncrossed-end d l well path best.joined) (Ascends-segment_ends d l well path best.joined)

-- ---- Segments

pub segments-begin : (d : DataLists) (rows : List UserRow) (history : List Pair) (key bounds : List ℕ) → AreDataSound d → IsKey key → AreBounds key bounds → All (λ (segment : Segment). IfSome (slice_get segment.candidates 0) (λ (candidate : Candidate). candidate.value ≡ path_value d rows key (entries d rows key bounds) (path_in (entries d rows key bounds) (first_answer d rows key bounds).path (part_of segment)))) (answer d rows history [] key bounds).segments
segments-begin d rows history key bounds sound is are =
    All-segments d rows history [] key bounds (λ (segment : Segment). IfSome (slice_get segment.candidates 0) (λ (candidate : Candidate). candidate.value ≡ path_value d rows key (entries d rows key bounds) (path_in (entries d rows key bounds) (first_answer d rows key bounds).path (part_of segment)))) begin
  where
    begin : (part : ℕ × ℕ) → Among part (cut d (entries d rows key bounds) bounds (first_answer d rows key bounds).path) → Begins (λ (candidate : Candidate). candidate.value ≡ path_value d rows key (entries d rows key bounds) (path_in (entries d rows key bounds) (first_answer d rows key bounds).path part)) (first_values d rows key (entries d rows key bounds) (span_between (entries d rows key bounds) (first_answer d rows key bounds).path part))
    begin part h =
        let l = some_lattice d rows key bounds in
        let best = (IsFirstAnswer-first_answer d rows l sound (IsLatticeOf-key d rows key bounds sound is are)).best in
        let same = from_all (λ (p : ℕ × ℕ). path_in l.entries (first_answer d rows key bounds).path p ≡ best_path d l.entries (span_between l.entries (first_answer d rows key bounds).path p)) (cut d (entries d rows key bounds) bounds (first_answer d rows key bounds).path) (All-best d l (IsWellFormed-key d rows key bounds sound is are) (first_answer d rows key bounds).path best) part h in
        begins-with_value d rows key (entries d rows key bounds) (span_between (entries d rows key bounds) (first_answer d rows key bounds).path part) (path_in (entries d rows key bounds) (first_answer d rows key bounds).path part) same

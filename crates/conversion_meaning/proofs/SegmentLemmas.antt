-- The segments of an answer.
use Rattle.std.proofs.Common.{◌≡◌, refl, sym, ap, ◌∙◌, subst, ℕ, ◌<◌, List, [], ◌∷◌, length, map, take, arith}
use Rattle.std.proofs.lemmas.List.{length-map}
use Rattle.mz_base.specs.Data.{DataLists, AreDataSound}
use Rattle.mz_base.specs.declared.conversion.Segment.{Segment}
use Rattle.mz_base.specs.declared.lattice.Pair.{Pair}
use Rattle.mz_base.specs.declared.user.UserRow.{UserRow}
use Rattle.conversion_meaning.specs.Answers.{answer, first_answer, segment_of}
use Rattle.conversion_meaning.specs.Entries.{entries}
use Rattle.conversion_meaning.specs.Lattices.{AreBounds, IsKey, IsLatticeOf, IsWellFormed}
use Rattle.conversion_meaning.specs.Paths.{IsPathOver, whole}
use Rattle.conversion_meaning.specs.SegmentLaws.{AreTouching, part_of}
use Rattle.conversion_meaning.specs.Segments.{cut, parts_from}
use Rattle.conversion_meaning.proofs.AnswerLemmas.{IsFirstAnswer-first_answer}
use Rattle.conversion_meaning.proofs.CutLemmas.{cut-keeps_bounds, cut-touches}
use Rattle.conversion_meaning.proofs.EntryLemmas.{IsWellFormed-from_entries}
use Rattle.conversion_meaning.proofs.SomeLattice.{IsLatticeOf-some, some_lattice}

-- the parts of the segments that are made of parts
parts-made : (f : ℕ × ℕ → Segment) → ((part : ℕ × ℕ) → part_of (f part) ≡ part) → (parts : List (ℕ × ℕ)) → map part_of (map f parts) ≡ parts
parts-made f same [] = refl
parts-made f same (part ∷ parts) =
    ap (λ p. p ∷ map part_of (map f parts)) (same part) ∙ ap (λ ps. part ∷ ps) (parts-made f same parts)

touching-some : (from to : ℕ) (parts : List (ℕ × ℕ)) → from < to → AreTouching from to parts → 0 < length parts
touching-some from to [] short h = absurd (omega (arith, h))
touching-some from to (part ∷ parts) short h = omega arith

module _ (d : DataLists) (rows : List UserRow) (history : List Pair) (rules key bounds : List ℕ) where
  -- the segments stand for the parts of the path
  pub parts-of_answer : map part_of (answer d rows history rules key bounds).segments ≡ cut d (entries d rows key bounds) bounds (first_answer d rows key bounds).path
  unfolding answer
  parts-of_answer =
      parts-made (segment_of d rows history rules key (entries d rows key bounds) (first_answer d rows key bounds).path) (λ part. refl) (cut d (entries d rows key bounds) bounds (first_answer d rows key bounds).path)

  pub segments-keep_bounds : take (length bounds) (map part_of (answer d rows history rules key bounds).segments) ≡ parts_from 0 bounds
  segments-keep_bounds =
      ap (take (length bounds)) parts-of_answer ∙ cut-keeps_bounds d (entries d rows key bounds) bounds (first_answer d rows key bounds).path

-- the lattice of a key, and the first answer's path in it
module _ (d : DataLists) (rows : List UserRow) (key bounds : List ℕ) (sound : AreDataSound d) (is : IsKey key) (are : AreBounds key bounds) where
  pub IsLatticeOf-key : IsLatticeOf d rows (some_lattice d rows key bounds)
  IsLatticeOf-key = IsLatticeOf-some d rows key bounds is are

  pub IsWellFormed-key : IsWellFormed d (some_lattice d rows key bounds)
  IsWellFormed-key = IsWellFormed-from_entries d rows (some_lattice d rows key bounds) sound IsLatticeOf-key

  pub first_path-joined : IsPathOver (entries d rows key bounds) (whole (some_lattice d rows key bounds) 0) (first_answer d rows key bounds).path
  first_path-joined =
      (IsFirstAnswer-first_answer d rows (some_lattice d rows key bounds) sound IsLatticeOf-key).best.joined

  pub segments-touch : (history : List Pair) (rules : List ℕ) → AreTouching 0 (length key) (map part_of (answer d rows history rules key bounds).segments)
  segments-touch history rules =
      subst (λ parts. AreTouching 0 (length key) parts) (sym (parts-of_answer d rows history rules key bounds)) (cut-touches d (some_lattice d rows key bounds) IsWellFormed-key (first_answer d rows key bounds).path first_path-joined)

  pub segments-some : (history : List Pair) (rules : List ℕ) → 0 < length (answer d rows history rules key bounds).segments
  segments-some history rules =
      let some = is.some in
      let h = touching-some 0 (length key) (map part_of (answer d rows history rules key bounds).segments) some (segments-touch history rules) in
      let e = length-map (answer d rows history rules key bounds).segments part_of in
      omega (arith, h, e)

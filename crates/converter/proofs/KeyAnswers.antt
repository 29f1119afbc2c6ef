-- The first answer of a key's lattice, and the segments of its path, are the answer to the key.
use Rattle.std.proofs.Common.{◌≡◌, refl, sym, ap, ◌∙◌, ℕ, List}
use Rattle.mz_base.specs.Data.{AreDataSound, DataLists}
use Rattle.mz_base.specs.declared.conversion.Conversion.{Conversion}
use Rattle.mz_base.specs.declared.conversion.Segment.{Segment}
use Rattle.mz_base.specs.declared.lattice.Certificate.{Certificate}
use Rattle.mz_base.specs.declared.lattice.Lattice.{Lattice}
use Rattle.mz_base.specs.declared.lattice.Pair.{Pair}
use Rattle.mz_base.specs.declared.user.UserRow.{UserRow}
use Rattle.conversion_meaning.specs.AnswerLaws.{IsFirstAnswer}
use Rattle.conversion_meaning.specs.Answers.{answer, first_answer, segments_of}
use Rattle.conversion_meaning.specs.Entries.{entries}
use Rattle.conversion_meaning.specs.Lattices.{IsLatticeOf}
use Rattle.conversion_meaning.proofs.AnswerLemmas.{first_answer-one}

module _ (d : DataLists) (rows : List UserRow) (history : List Pair) (rules : List ℕ) (l : Lattice) (sound : AreDataSound d) (of : IsLatticeOf d rows l) where
  abbrev made : Certificate → List Segment → Conversion
  made c segments = record { certificate = c; segments = segments }

  answer-of_lattice : (c : Certificate) (segments : List Segment) → IsFirstAnswer d l c → segments ≡ segments_of d rows history rules l.key l.entries l.bounds c.path → made c segments ≡ answer d rows history rules l.key l.bounds
  unfolding answer
  answer-of_lattice c segments is are =
      let first = first_answer-one d rows l sound of c is in
      let parts = are ∙ ap (λ es. segments_of d rows history rules l.key es l.bounds c.path) of.entries_are ∙ ap (λ (c : Certificate). segments_of d rows history rules l.key (entries d rows l.key l.bounds) l.bounds c.path) first in
      ap (λ c. made c segments) first ∙ ap (made (first_answer d rows l.key l.bounds)) parts

  pub answer-of_key : (key bounds : List ℕ) (c : Certificate) (segments : List Segment) → l.key ≡ key → l.bounds ≡ bounds → IsFirstAnswer d l c → segments ≡ segments_of d rows history rules l.key l.entries l.bounds c.path → made c segments ≡ answer d rows history rules key bounds
  answer-of_key key bounds c segments key_is bounds_are is are =
      answer-of_lattice c segments is are ∙ ap (λ key. answer d rows history rules key l.bounds) key_is ∙ ap (λ bounds. answer d rows history rules key bounds) bounds_are

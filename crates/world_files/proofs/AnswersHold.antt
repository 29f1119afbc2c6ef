-- What is written of a key's answer reads as the answer, and the answer holds.
use Rattle.std.specs.List.{flat_map}
use Rattle.std.proofs.Common.{◌≡◌, refl, subst, sym, ℕ, ◌<◌, ◌≤◌, inl, inr, List, [], ◌∷◌, length, arith, Ok}
use Rattle.std.specs.Prelude.{ℤ, pos, negsuc, slice_index}
use Rattle.std.proofs.lemmas.Int.{ints}
use Rattle.mz_base.specs.Data.{DataLists, AreDataSound}
use Rattle.mz_base.specs.declared.lattice.Certificate.{Certificate}
use Rattle.mz_base.specs.declared.lattice.Entry.{Entry}
use Rattle.mz_base.specs.declared.lattice.Lattice.{Lattice}
use Rattle.cert_text.specs.Written.{CanBeWritten, IsShort}
use Rattle.cert_text.specs.declared.field.TheConstants.{MOST_ORDINAL}
use Rattle.cert_text.proofs.ReadAgain.{certificate_text-read}
use Rattle.cert_text.specs.Readings.{certificate_of}
use Rattle.cert_text.specs.Texts.{certificate_text}
use Rattle.conversion_text.specs.Texts.{conversion_text, segment_text}
use Rattle.mz_base.specs.Lines.{lines_of}
use Rattle.world_files.proofs.MoreLines.{certificate_text-read_on}
use Rattle.conversion_meaning.specs.AnswerLaws.{IsFirstAnswer}
use Rattle.conversion_meaning.specs.Answers.{answer, first_answer}
use Rattle.conversion_meaning.specs.Bounds.{IsWithin}
use Rattle.conversion_meaning.specs.Certificates.{claim_of}
use Rattle.conversion_meaning.specs.Lattices.{AreBounds, IsKey, IsLatticeOf, IsWellFormed, entry, no_entry}
use Rattle.conversion_meaning.specs.Paths.{IsPath, IsSpan, whole}
use Rattle.conversion_meaning.specs.Potentials.{ordinals_in}
use Rattle.conversion_meaning.proofs.AnswerLemmas.{IsFirstAnswer-first_answer}
use Rattle.conversion_meaning.proofs.CostBounds.{IsWithin-least, IsWithin-path_cost}
use Rattle.conversion_meaning.proofs.Counts.{entries-few}
use Rattle.conversion_meaning.proofs.EntryLemmas.{IsWellFormed-from_entries}
use Rattle.conversion_meaning.proofs.LeastCosts.{IsCertificate-from_least, inside_at}
use Rattle.conversion_meaning.proofs.Lists.{All-from_among, Among, place_of}
use Rattle.world_files.specs.Conversions.{AnswerHolds}
use Rattle.conversion_meaning.proofs.SomeLattice.{IsLatticeOf-some, some_lattice}

-- a number that is no further from 0 than this has few enough digits
IsShort-within : (most : ℕ) (cost : ℤ) → most < 1000000000000000000 → IsWithin most cost → IsShort cost
IsShort-within most (pos n) few within =
    let high = within.below in
    omega (arith, ints, high)
IsShort-within most (negsuc n) few within =
    let low = within.above in
    omega (arith, ints, low)

-- each ordinal of a path is that of an entry
inside_path : (es : List Entry) (from to : ℕ) (path : List ℕ) → IsPath es from to path → (o : ℕ) → Among o path → o < length es
inside_path es from to [] joined o among = absurd among
inside_path es from to (first ∷ path) joined o (inl same) = subst (λ x. x < length es) same joined.0
inside_path es from to (first ∷ path) joined o (inr among) = inside_path es (entry es first).end to path joined.2 o among

module _ (set : DataLists) (l : Lattice) (sound : AreDataSound set) (of : IsLatticeOf set [] l) (c : Certificate) (is : IsFirstAnswer set l c) where
  well : IsWellFormed set l
  well = IsWellFormed-from_entries set [] l sound of

  spans : IsSpan set l (whole l 0)
  spans =
      let some = of.key.some in
      let ids = sound.some_ids in
      record { forward = some; inside = omega arith; left = ids; right = ids }

  few_entries : length l.entries < 4294967296
  few_entries =
      let few = entries-few set [] l.key l.bounds sound (omega arith) of.key in
      subst (λ es. length es < 4294967296) (sym of.entries_are) (omega (arith, few))

  short_total : IsShort c.total
  short_total =
      let within = IsWithin-path_cost set l (whole l 0) c.path sound well spans is.best.joined in
      let few = of.key.few in
      subst IsShort (sym is.total_is) (IsShort-within _ _ (omega (arith, few)) within)

  short_potential : (cost : ℤ) → Among cost c.potentials → IsShort cost
  short_potential cost among =
      let at = place_of cost c.potentials among in
      let o = slice_index (ordinals_in l.entries (whole l 0)) at.0 in
      let place : at.0 < length (ordinals_in l.entries (whole l 0)) = subst (λ n. at.0 < n) is.least.count at.1 in
      let inside = inside_at l.entries (whole l 0) at.0 place in
      let within = IsWithin-least set l (whole l 0) o _ sound well spans inside (is.least.each at.0 at.1) in
      let few = of.key.few in
      let ends = (well.entries o no_entry inside).inside in
      subst IsShort (at.2 (pos 0)) (IsShort-within _ _ (omega (arith, few, ends)) within)

  written : CanBeWritten (length l.key) c
  written =
      record {
        bounds = rw is.same_bounds record { rising = of.bounds.rising; inside = of.bounds.inside };
        path = All-from_among (λ o. o ≤ MOST_ORDINAL) c.path (λ o among. let inside = inside_path l.entries 0 (length l.key) c.path is.best.joined o among in omega (arith, inside, few_entries));
        potentials = All-from_among IsShort c.potentials short_potential;
        total = short_total;
      }

-- what is written of a whole answer reads as its first answer, where that is so of the first answer alone
whole-read : (set : DataLists) (key bounds : List ℕ) → certificate_of (length key) (lines_of (certificate_text (first_answer set [] key bounds))) ≡ Ok (first_answer set [] key bounds) → certificate_of (length key) (lines_of (conversion_text key (answer set [] [] [] key bounds))) ≡ Ok (first_answer set [] key bounds)
unfolding answer
whole-read set key bounds is =
    certificate_text-read_on (first_answer set [] key bounds) (length key) (flat_map (segment_text key) (answer set [] [] [] key bounds).segments) is

-- the answer of a lattice's key is written so that it reads again, and it holds
AnswerHolds-lattice : (set : DataLists) (l : Lattice) → AreDataSound set → IsLatticeOf set [] l → AnswerHolds set l.key l.bounds
AnswerHolds-lattice set l sound of =
    let c = first_answer set [] l.key l.bounds in
    let is : IsFirstAnswer set l c = IsFirstAnswer-first_answer set [] l sound of in
    record {
      reads = whole-read set l.key l.bounds (certificate_text-read (length l.key) c of.key.few (written set l sound of c is));
      holds = record {
        lattice = l;
        of_key = of;
        key_is = refl;
        bounds_are = sym is.same_bounds;
        verdict_is = IsCertificate-from_least (claim_of set l.entries (whole l 0) c) of.key.some is.least is.best is.total_is;
      };
    }

-- a key with bounds has a lattice
pub AnswerHolds-answer : (set : DataLists) (key bounds : List ℕ) → AreDataSound set → IsKey key → AreBounds key bounds → AnswerHolds set key bounds
AnswerHolds-answer set key bounds sound is are =
    AnswerHolds-lattice set (some_lattice set [] key bounds) sound (IsLatticeOf-some set [] key bounds is are)

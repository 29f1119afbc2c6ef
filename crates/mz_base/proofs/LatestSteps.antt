-- One row more, from the last on, where of repeated names the last holds.
use Rattle.std.proofs.Common.{◌≡◌, Bool, true, false, List, [], ◌∷◌, ◌++◌, append-nil, sym, ap, ◌∙◌, refl, inl, inr, ℕ, reverse}
use Rattle.std.specs.List.{list_any}
use Rattle.std.specs.List.Sorted.{IsPermutation}
use Rattle.std.specs.Str.{bytes_eq}
use Rattle.std.proofs.lemmas.Bool.{cases_Bool}
use Rattle.std.proofs.lemmas.List.{append_assoc, reverse-append}
use Rattle.std.proofs.lemmas.List.Sorted.{list_any-IsPermutation}
use Rattle.std.proofs.lemmas.Slice.Eq.{bytes_eq-Decides}
use Rattle.mz_base.specs.Latest.{latest}

module _ {A K : Type 0} (name : A → List ℕ) (text : K → List ℕ) where
  -- the rows have one name
  abbrev pub same_name : A → A → Bool
  same_name row other = bytes_eq (name row) (name other)

  -- a name that a later row has is known already
  repeated : (wanted : List ℕ) (rows : List A) (row : A) → list_any (same_name row) rows ≡ true → list_any (λ other. bytes_eq wanted (name other)) (row ∷ rows) ≡ list_any (λ other. bytes_eq wanted (name other)) rows
  repeated wanted rows row found =
      elim (cases_Bool (bytes_eq wanted (name row))) [
        | inl is ↦ let same : wanted ≡ name row = (bytes_eq-Decides wanted (name row)).0 is in rw (is, same) (sym found)
        | inr other ↦ rw other refl
      ]

  -- the keys have this text
  abbrev pub has : List ℕ → List K → Bool
  has wanted keys = list_any (λ key. bytes_eq wanted (text key)) keys

  -- the keys are the names of these rows
  abbrev pub AreNames : List A → List K → Type 0
  AreNames rows keys = (wanted : List ℕ) → has wanted keys ≡ list_any (λ row. bytes_eq wanted (name row)) rows

  -- what is left, and what is kept of the rows after it, the last first
  pub record IsPartLatest (all left kept : List A) (keys : List K) : Type 0 where
    pub later : List A
    pub parts : all ≡ left ++ later
    pub kept_is : reverse kept ≡ latest same_name later
    pub seen : AreNames later keys

  -- before the first row
  pub IsPartLatest-start : (all : List A) → IsPartLatest all all [] []
  IsPartLatest-start all = record {
    later = [];
    parts = simp append-nil;
    kept_is = refl;
    seen = λ wanted. refl;
  }

  -- no row is left
  pub IsPartLatest-end : (all kept : List A) (keys : List K) → IsPartLatest all [] kept keys → reverse kept ≡ latest same_name all
  IsPartLatest-end all kept keys part = part.kept_is ∙ ap (latest same_name) (sym part.parts)

  -- the last row that is left is new, and is kept
  pub IsPartLatest-new : (all left kept : List A) (row : A) (keys keys' : List K) (key : K) → text key ≡ (name row) → has (name row) keys ≡ false → IsPermutation (key ∷ keys) keys' → IsPartLatest all (left ++ row ∷ []) kept keys → IsPartLatest all left (kept ++ row ∷ []) keys'
  IsPartLatest-new all left kept row keys keys' key is new moved part =
      let none : list_any (same_name row) part.later ≡ false = sym (part.seen (name row)) ∙ new in record {
        later = row ∷ part.later;
        parts = part.parts ∙ append_assoc left (row ∷ []) part.later;
        kept_is = reverse-append kept (row ∷ []) ∙ rw (none, part.kept_is) refl;
        seen = λ wanted. sym (list_any-IsPermutation (λ k. bytes_eq wanted (text k)) (key ∷ keys) keys' moved) ∙ rw (is, part.seen wanted) refl;
      }

  -- the last row that is left is repeated
  pub IsPartLatest-old : (all left kept : List A) (row : A) (keys keys' : List K) → has (name row) keys ≡ true → keys' ≡ keys → IsPartLatest all (left ++ row ∷ []) kept keys → IsPartLatest all left kept keys'
  IsPartLatest-old all left kept row keys keys' old same part =
      let found : list_any (same_name row) part.later ≡ true = sym (part.seen (name row)) ∙ old in record {
        later = row ∷ part.later;
        parts = part.parts ∙ append_assoc left (row ∷ []) part.later;
        kept_is = rw found part.kept_is;
        seen = λ wanted. rw same (part.seen wanted ∙ sym (repeated wanted part.later row found));
      }

-- The files of one set, and those of the others.
use Rattle.std.proofs.Common.{◌≡◌, ◌≢◌, ℕ, ◌==◌, ◌≤◌, Bool, true, false, not, List, [], ◌∷◌, ◌++◌, map, filter, length, refl, sym, ap, ◌∙◌, arith}
use Rattle.std.proofs.lemmas.Bool.{eqb-true}
use Rattle.std.proofs.lemmas.List.{length-map, map-append}
use Rattle.std.proofs.lemmas.List.Elements.{filter-append}
use Rattle.std.proofs.lemmas.List.Sums.{length-filter, count_by-le-length}
use Rattle.world_files.specs.DataSets.{files_of, others_of}
use Rattle.world_files.specs.declared.reading.DataFile.{DataFile}

pub files_of-cons : (number : ℕ) (file : DataFile) (files : List DataFile) → files_of number (file ∷ files) ≡ files_of number (file ∷ []) ++ files_of number files
files_of-cons number file files =
    ap (map (λ (f : DataFile). f.file)) (filter-append (λ (f : DataFile). f.set == number) (file ∷ []) files) ∙ map-append (λ (f : DataFile). f.file) (filter (λ (f : DataFile). f.set == number) (file ∷ [])) (filter (λ (f : DataFile). f.set == number) files)

pub others_of-cons : (number : ℕ) (file : DataFile) (files : List DataFile) → others_of number (file ∷ files) ≡ others_of number (file ∷ []) ++ others_of number files
others_of-cons number file files =
    filter-append (λ (f : DataFile). not (f.set == number)) (file ∷ []) files

-- leaving out another set's files leaves the set's own
others-cons : (number other : ℕ) (file : DataFile) (files : List DataFile) (is_other is_own : Bool) → (file.set == other) ≡ is_other → (file.set == number) ≡ is_own → number ≢ other → files_of number (others_of other files) ≡ files_of number files → files_of number (others_of other (file ∷ files)) ≡ files_of number (file ∷ files)
others-cons number other file files true true other_is own_is differ rest =
    absurd (differ (sym (eqb-true file.set number own_is) ∙ eqb-true file.set other other_is))
others-cons number other file files true false other_is own_is differ rest = simp (other_is, own_is) rest
others-cons number other file files false true other_is own_is differ rest = simp (other_is, own_is) (ap (λ more. file.file ∷ more) rest)
others-cons number other file files false false other_is own_is differ rest = simp (other_is, own_is) rest

pub files_of-others : (number other : ℕ) (files : List DataFile) → number ≢ other → files_of number (others_of other files) ≡ files_of number files
files_of-others number other [] differ = refl
files_of-others number other (file ∷ files) differ =
    others-cons number other file files (file.set == other) (file.set == number) refl refl differ (files_of-others number other files differ)

pub few-filter : {A : Type 0} (test : A → Bool) (xs : List A) → length (filter test xs) ≤ length xs
few-filter test xs = omega (arith, length-filter test xs, count_by-le-length test xs)

-- a set has no more files than there are, and neither have the others
pub few-files_of : (number : ℕ) (files : List DataFile) → length (files_of number files) ≤ length files
few-files_of number files =
    let own = filter (λ (f : DataFile). f.set == number) files in
    omega (arith, length-map own (λ (f : DataFile). f.file), few-filter (λ (f : DataFile). f.set == number) files)

pub few-others_of : (number : ℕ) (files : List DataFile) → length (others_of number files) ≤ length files
few-others_of number files = few-filter (λ (f : DataFile). not (f.set == number)) files

-- One set more of the sets of a manifest, and a listing that does not fit.
use Rattle.std.proofs.Common.{◌≡◌, ℕ, ◌+◌, ◌<◌, List, [], ◌∷◌, ◌++◌, Ok, Err, length, get_or, drop, sym, ap, ◌∙◌}
use Rattle.std.proofs.lemmas.List.{at_drop_more}
use Rattle.mz_base.specs.Answers.{◌>>=◌}
use Rattle.mz_base.specs.Data.{DataLists}
use Rattle.report.proofs.Passing.{fails_with_more}
use Rattle.report.specs.Printed.{Adds}
use Rattle.report.specs.declared.error.PrintError.{PrintError}
use Rattle.world_files.specs.DataSets.{NamedSet, files_of, set_in, sets_after}
use Rattle.world_files.specs.declared.reading.DataFile.{DataFile}

pub sets_after-set : (files : List DataFile) (names : List (List ℕ)) (i : ℕ) (d : List ℕ) (before : List NamedSet) (set : DataLists) → i < length names → set_in (files_of (i + 1) files) ≡ Ok set → sets_after files before (i + 1) (drop i names) ≡ sets_after files (before ++ record { name = get_or names i d; lists = set } ∷ []) (i + 1 + 1) (drop (i + 1) names)
sets_after-set files names i d before set inside is =
    at_drop_more (λ rest. sets_after files before (i + 1) rest) names i d inside ∙ ap (λ given. given >>= (λ set. sets_after files (before ++ record { name = get_or names i d; lists = set } ∷ []) (i + 1 + 1) (drop (i + 1) names))) is

-- what does not fit does not fit with what comes after it in a list
pub fails-next : {A : Type 0} (all : List A → List ℕ) (start total before text more after end : List ℕ) (xs : List A) (i : ℕ) (x : A) (error : PrintError) → i < length xs → x ≡ get_or xs i x → before ++ all (drop i xs) ≡ start ++ total → all (x ∷ drop (i + 1) xs) ≡ text ++ more → Adds {A = Unit {0}} before text (Err error) after → Adds {A = Unit {0}} start total (Err error) end
fails-next all start total before text more after end xs i x error inside is joined parts fails =
    let step : all (drop i xs) ≡ all (x ∷ drop (i + 1) xs) = at_drop_more all xs i x inside ∙ ap (λ y. all (y ∷ drop (i + 1) xs)) (sym is) in
    fails_with_more start total before text more after end error (ap (λ rest. before ++ rest) (sym parts ∙ sym step) ∙ joined) fails

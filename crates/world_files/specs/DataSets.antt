-- The data sets of a manifest: docs/FORMATS.md, "Data files" and "The listing of data sets".
use Rattle.std.specs.Prelude.{ℕ, ◌+◌, ◌-◌, ◌==◌, not, List, [], ◌∷◌, ◌++◌, map, filter, Result, Ok, Err, codes, encode_utf8_all, length, slice_index_or}
use Rattle.std.specs.Fmt.{decimal}
use Rattle.std.specs.List.{range_with_len}
use Rattle.mz_base.specs.Answers.{◌>>=◌}
use Rattle.mz_base.specs.Data.{DataLists}
use Rattle.mz_base.specs.declared.fault.Fault.{Fault}
use Rattle.mz_base.specs.declared.status.BadSet.{BadSet}
use Rattle.engine.specs.Sets.{data_of, has_role}
use Rattle.engine.specs.declared.files.SetFile.{SetFile}
use Rattle.world_files.specs.declared.reading.DataFile.{DataFile}
use Rattle.mz_base.specs.declared.status.Refusal.{Refusal}
use Rattle.mz_base.specs.declared.status.Refusal.TheVariants as refusal

-- the files of the set of this number
abbrev pub files_of : ℕ → List DataFile → List SetFile
files_of number files = map (λ (file : DataFile). file.file) (filter (λ (file : DataFile). file.set == number) files)

-- the files of all other sets
abbrev pub others_of : ℕ → List DataFile → List DataFile
others_of number files = filter (λ (file : DataFile). not (file.set == number)) files

-- the path of the file that has a fault
abbrev pub path_of : List SetFile → Fault → List ℕ
path_of files fault =
    slice_index_or (map (λ (file : SetFile). file.path) (filter (has_role fault.role) files)) (fault.nth - 1) []

-- a set, or the file at fault with its fault
abbrev pub or_bad : List SetFile → Result DataLists Fault → Result DataLists BadSet
or_bad files (Ok set) = Ok set
or_bad files (Err fault) = Err (record { path = path_of files fault; fault = fault })

-- what the files of a set give
abbrev pub set_of : List SetFile → Result DataLists BadSet
set_of files = or_bad files (data_of files)

abbrev pub or_refused : Result DataLists BadSet → Result DataLists Refusal
or_refused (Ok set) = Ok set
or_refused (Err bad) = Err (refusal.BadData bad)

-- the set of these files, where it has to read
abbrev pub set_in : List SetFile → Result DataLists Refusal
set_in files = or_refused (set_of files)

-- what the files of the set of this number give
abbrev pub job_of : List DataFile → ℕ → Result DataLists BadSet
job_of files number = set_of (files_of number files)

-- What the files of so many sets give, where the first has to read.
abbrev pub jobs_of : List DataFile → ℕ → Result (List (Result DataLists BadSet)) Refusal
jobs_of files count = set_in (files_of 1 files) >>= (λ first. Ok (Ok first ∷ map (job_of files) (range_with_len 2 (count - 1))))

-- a data set and its name
pub record NamedSet : Type 0 where
  pub name : List ℕ
  pub lists : DataLists

-- a set's line: its name, and how many ids, words and romaji rules it has
abbrev pub set_text : NamedSet → List ℕ
set_text set =
    codes "set\t" ++ (encode_utf8_all set.name ++ (codes "\t" ++ (decimal set.lists.ids ++ (codes "\t" ++ (decimal (length set.lists.words) ++ (codes "\t" ++ (decimal (length set.lists.rules) ++ codes "\n")))))))

-- the sets before, and then those of these names, numbered from here; or the first that does not read
abbrev pub sets_after : List DataFile → List NamedSet → ℕ → List (List ℕ) → Result (List NamedSet) Refusal
sets_after files before number [] = Ok before
sets_after files before number (name ∷ names) =
    set_in (files_of number files) >>= (λ lists. sets_after files (before ++ record { name = name; lists = lists } ∷ []) (number + 1) names)

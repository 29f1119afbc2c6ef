-- Files that are read one after the other, within one limit on all their bytes: docs/FORMATS.md, "Order of work".
use Rattle.std.specs.Prelude.{◌≡◌, ⊤, ℕ, ◌-◌, ◌≤◌, OnOk, List, [], ◌∷◌, ◌++◌, Option, Some, None, Result, Ok, Err, if◌then◌else◌, length, nat_lt, encode_utf8_all}
use Rattle.mz_base.specs.Answers.{◌>>=◌}
use Rattle.mz_base.specs.declared.status.Limit.TheVariants.{Bytes}
use Rattle.mz_outside.specs.Causes.{Rose}
use Rattle.scenario.specs.declared.manifest.FileLine.{FileLine}
use Rattle.world_files.specs.declared.reading.DataFile.{DataFile}
use Rattle.world_files.specs.declared.reading.Found.{Found}
use Rattle.mz_base.specs.declared.status.Refusal.{Refusal}
use Rattle.mz_base.specs.declared.status.Refusal.TheVariants as refusal

-- files by name; a name is the bytes of its text
abbrev pub Files : Type 0
Files = List ℕ → Option (List ℕ)

-- a file that is not there
abbrev pub no_file : List ℕ → Result (List ℕ) Refusal
no_file name = Err (refusal.Absent name)

-- a file that is there, and has no more bytes than may still be read
abbrev pub within : ℕ → List ℕ → Option (List ℕ) → Result (List ℕ) Refusal
within left name None = no_file name
within left name (Some bytes) = if nat_lt left (length bytes) then Err (refusal.TooLarge Bytes) else Ok bytes

abbrev pub file : Files → ℕ → List ℕ → Result (List ℕ) Refusal
file files left name = within left name (files (encode_utf8_all name))

-- the file of a line, of its set
abbrev pub data_file : FileLine → List ℕ → DataFile
data_file line bytes =
    record { set = line.set; file = record { role = line.role; path = line.path; bytes = bytes } }

-- The files before, and then those of these lines, and how many bytes may still be read; or the first refusal.
abbrev pub files_after : Files → List DataFile → ℕ → List FileLine → Result Found Refusal
files_after files before left [] = Ok (record { files = before; left = left })
files_after files before left (line ∷ lines) =
    file files left line.path >>= (λ bytes. files_after files (before ++ data_file line bytes ∷ []) (left - length bytes) lines)

-- What each refusal says of a call. Two are free, and say nothing: a read may fail and memory may run out where any other
-- answer was due. Each other one says this.
abbrev pub UnlessFree : Refusal → Type 0 → Type 0
UnlessFree refusal.ReadFault Says = ⊤
UnlessFree refusal.Memory Says = ⊤
UnlessFree refused Says = Says

-- a refusal is the definition's, unless it is free
abbrev pub IsRefusal : {A : Type 0} → Refusal → Result A Refusal → Type 0
IsRefusal refused wanted = UnlessFree refused (wanted ≡ Err refused)

-- an answer, its value seen by view, is the definition's, unless it is a free refusal
abbrev pub Tells : {A B : Type 0} → (A → B) → Result A Refusal → Result B Refusal → Type 0
Tells view (Ok value) wanted = wanted ≡ Ok (view value)
Tells view (Err refused) wanted = IsRefusal refused wanted

-- What a call that reads leaves of its store. Its files stay. A fault is counted where the call answers `ReadFault`, and none
-- is where it succeeds or memory runs out.
pub record Reads {A : Type 0} (files_before files_after : Option Files) (before after : ℕ) (answer : Result A Refusal) : Type 0 where
  pub same : files_after ≡ files_before
  pub later : before ≤ after
  pub fault : answer ≡ Err refusal.ReadFault → Rose before after
  pub memory : answer ≡ Err refusal.Memory → after ≡ before
  pub success : OnOk answer (after ≡ before)

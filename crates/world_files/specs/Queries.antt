-- What is asked of one data set, and the files that answer it: docs/FORMATS.md, "Convert and verify".
use Rattle.std.specs.Prelude.{ℕ, ◌+◌, ◌==◌, false, List, [], map, filter, Option, Some, None, position, Result, Ok, Err, if◌then◌else◌, length, nat_lt}
use Rattle.mz_base.specs.Answers.{◌>>=◌}
use Rattle.mz_base.specs.Data.{DataLists, is_text}
use Rattle.mz_base.specs.Lines.{lines_of}
use Rattle.mz_base.specs.declared.lattice.TheConstants.{MOST_KEY}
use Rattle.mz_base.specs.declared.lattice.Certificate.{Certificate}
use Rattle.mz_base.specs.declared.status.CertFault.TheVariants.{Text}
use Rattle.mz_base.specs.declared.status.Limit.TheVariants.{Key}
use Rattle.cert_text.specs.Readings.{certificate_of}
use Rattle.engine.specs.declared.files.SetFile.{SetFile}
use Rattle.scenario.specs.declared.manifest.FileLine.{FileLine}
use Rattle.world_files.specs.DataSets.{set_in}
use Rattle.world_files.specs.Reading.{Files, file, files_after}
use Rattle.world_files.specs.Worlds.{opened}
use Rattle.world_files.specs.declared.query.Query.{Query}
use Rattle.world_files.specs.declared.reading.DataFile.{DataFile}
use Rattle.world_files.specs.declared.reading.Found.{Found}
use Rattle.mz_base.specs.declared.status.Refusal.{Refusal}
use Rattle.mz_base.specs.declared.status.Refusal.TheVariants as refusal

-- a key that is not too long
abbrev pub short_key : List ℕ → Result (List ℕ) Refusal
short_key key = if nat_lt MOST_KEY (length key) then Err (refusal.TooLarge Key) else Ok key

-- the number of the set of this name, from 1
abbrev pub or_no_set : List ℕ → Option ℕ → Result ℕ Refusal
or_no_set name None = Err (refusal.NoSet name)
or_no_set name (Some place) = Ok (place + 1)

abbrev pub set_number : List ℕ → List (List ℕ) → Result ℕ Refusal
set_number name names = or_no_set name (position (is_text name) names)

-- the lines of a set's files
abbrev pub lines_of_set : ℕ → List FileLine → List FileLine
lines_of_set number lines = filter (λ (line : FileLine). line.set == number) lines

-- The files of the set that is asked of: the key is looked at, the manifest is read, and then the set's files.
unfoldable pub set_files : Files → Query → Result Found Refusal
set_files files query = do
  key ← short_key query.key
  start ← opened files query.manifest
  number ← set_number query.set start.manifest.sets
  files_after files [] start.left (lines_of_set number start.manifest.files)

abbrev pub all_files : List DataFile → List SetFile
all_files found = map (λ (file : DataFile). file.file) found

-- the data set that is asked of
unfoldable pub query_set : Files → Query → Result DataLists Refusal
query_set files query = set_files files query >>= (λ found. set_in (all_files found.files))

-- a certificate, or the line of its file that does not read
abbrev pub or_text_fault : Result Certificate ℕ → Result Certificate Refusal
or_text_fault (Ok certificate) = Ok certificate
or_text_fault (Err line) = Err (refusal.BadCertificate (Text line))

-- a data set, and what is claimed of a key in it
pub record Claimed : Type 0 where
  pub set : DataLists
  pub certificate : Certificate

-- what the lines of a certificate claim of a key in a set
abbrev pub claim_in : DataLists → List ℕ → List ℕ → Result Claimed Refusal
claim_in set key bytes = do
  certificate ← or_text_fault (certificate_of (length key) (lines_of bytes))
  Ok (record { set = set; certificate = certificate })

-- What is asked to be verified: the set's files are read, then the certificate's file; the set is built, and then the
-- certificate's lines are read.
unfoldable pub query_claim : Files → Query → List ℕ → Result Claimed Refusal
query_claim files query name = do
  found ← set_files files query
  bytes ← file files found.left name
  set ← set_in (all_files found.files)
  claim_in set query.key bytes

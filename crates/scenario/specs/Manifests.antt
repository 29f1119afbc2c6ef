-- A manifest, line by line, and its first line that is bad or too large: docs/FORMATS.md, "Manifest".
use Rattle.std.specs.Prelude.{ℕ, ◌+◌, ◌==◌, ◌&&◌, Bool, true, false, not, List, [], ◌∷◌, ◌++◌, filter, Option, Some, None, unwrap_or, Result, Ok, Err, if◌then◌else◌, codes, length, bytes_eq, nat_lt}
use Rattle.std.specs.List.{list_all, range_with_len}
use Rattle.std.specs.Str.{is_utf8}
use Rattle.mz_base.specs.Answers.{◌>>=◌}
use Rattle.mz_base.specs.Lines.{fields_of, is_skipped}
use Rattle.mz_base.specs.declared.fault.Role.TheVariants.{Romaji}
use Rattle.mz_base.specs.declared.status.Limit.TheVariants.{Sets, Users, Clients, Dictionaries}
use Rattle.scenario.specs.Entries.{name_of, file_of, dict_of, client_of, loaders_of, turns_on, has_file}
use Rattle.scenario.specs.declared.manifest.ClientLine.{ClientLine}
use Rattle.scenario.specs.declared.manifest.DictLine.{DictLine}
use Rattle.scenario.specs.declared.manifest.FileLine.{FileLine}
use Rattle.scenario.specs.declared.manifest.Manifest.{Manifest}
use Rattle.scenario.specs.declared.manifest.ManifestError.{ManifestError}
use Rattle.scenario.specs.declared.manifest.ManifestError.TheVariants.{Bad, TooLarge}
use Rattle.scenario.specs.declared.manifest.TheConstants.{MOST_SETS, MOST_USERS, MOST_CLIENTS, MOST_DICTIONARIES}

-- what the lines have told so far; sets and users are numbered from 1
pub record Told : Type 0 where
  pub sets : List (List ℕ)
  pub files : List FileLine
  pub users : List (List ℕ)
  pub dicts : List DictLine
  pub clients : List ClientLine
  -- the number of loaders, and whether certificates are asked for, where a line said so
  pub loaders : Option ℕ
  pub certificates : Bool

abbrev pub nothing_told : Told
nothing_told =
    record { sets = []; files = []; users = []; dicts = []; clients = []; loaders = None; certificates = false }

-- what a line says, or the line is bad
abbrev pub or_bad : {A : Type 0} → ℕ → Option A → Result A ManifestError
or_bad number None = Err (Bad number)
or_bad number (Some said) = Ok said

-- a set more
unfoldable pub with_set : ℕ → Told → List (List ℕ) → Result Told ManifestError
with_set number told fields = do
  name ← or_bad number (name_of told.sets fields)
  if nat_lt (length told.sets) MOST_SETS then Ok (record told { sets = told.sets ++ name ∷ [] }) else Err (TooLarge Sets number)

-- a file more
unfoldable pub with_file : ℕ → Told → List (List ℕ) → Result Told ManifestError
with_file number told fields = do
  file ← or_bad number (file_of told.sets told.files fields)
  Ok (record told { files = told.files ++ file ∷ [] })

-- a user more
unfoldable pub with_user : ℕ → Told → List (List ℕ) → Result Told ManifestError
with_user number told fields = do
  name ← or_bad number (name_of told.users fields)
  if nat_lt (length told.users) MOST_USERS then Ok (record told { users = told.users ++ name ∷ [] }) else Err (TooLarge Users number)

-- the dictionaries of a user
abbrev pub dicts_of : ℕ → List DictLine → List DictLine
dicts_of user dicts = filter (λ dict. dict.user == user) dicts

-- a dictionary more
unfoldable pub with_dict : ℕ → Told → List (List ℕ) → Result Told ManifestError
with_dict number told fields = do
  dict ← or_bad number (dict_of told.users fields)
  if nat_lt (length (dicts_of dict.user told.dicts)) MOST_DICTIONARIES then Ok (record told { dicts = told.dicts ++ dict ∷ [] }) else Err (TooLarge Dictionaries number)

-- a client more
unfoldable pub with_client : ℕ → Told → List (List ℕ) → Result Told ManifestError
with_client number told fields = do
  client ← or_bad number (client_of told.users told.clients fields)
  if nat_lt (length told.clients) MOST_CLIENTS then Ok (record told { clients = told.clients ++ client ∷ [] }) else Err (TooLarge Clients number)

-- the number of loaders
unfoldable pub with_loaders : ℕ → Told → List (List ℕ) → Result Told ManifestError
with_loaders number told fields = do
  loaders ← or_bad number (loaders_of told.loaders fields)
  Ok (record told { loaders = Some loaders })

-- certificates
unfoldable pub with_certificates : ℕ → Told → List (List ℕ) → Result Told ManifestError
with_certificates number told fields =
    if turns_on told.certificates fields then Ok (record told { certificates = true }) else Err (Bad number)

-- a line by its first word and its further fields
unfoldable pub with_word : ℕ → Told → List ℕ → List (List ℕ) → Result Told ManifestError
with_word number told word fields =
    if bytes_eq word (codes "DATASET") then with_set number told fields else
    if bytes_eq word (codes "FILE") then with_file number told fields else
    if bytes_eq word (codes "USER") then with_user number told fields else
    if bytes_eq word (codes "USERDICT") then with_dict number told fields else
    if bytes_eq word (codes "CLIENT") then with_client number told fields else
    if bytes_eq word (codes "LOADERS") then with_loaders number told fields else
    if bytes_eq word (codes "CERTIFICATES") then with_certificates number told fields else
    Err (Bad number)

abbrev pub with_fields : ℕ → Told → List (List ℕ) → Result Told ManifestError
with_fields number told [] = Err (Bad number)
with_fields number told (word ∷ fields) = with_word number told word fields

-- a line of any kind; one that is no text is bad, also where it would be skipped
unfoldable pub with_line : ℕ → Told → List ℕ → Result Told ManifestError
with_line number told line =
    if not (is_utf8 line) then Err (Bad number) else
    if is_skipped line then Ok told else
    with_fields number told (fields_of line)

-- each set has a romaji file
abbrev pub have_romaji : Told → Bool
have_romaji told = list_all (λ set. has_file told.files set Romaji) (range_with_len 1 (length told.sets))

-- the manifest that the lines have told; without a line there is one loader
abbrev pub manifest_from : Told → Manifest
manifest_from told =
    record { sets = told.sets; files = told.files; users = told.users; dicts = told.dicts; clients = told.clients; loaders = unwrap_or told.loaders 1; certificates = told.certificates }

-- after the last line: there is a set, and each has a romaji file
abbrev pub finished : ℕ → Told → Result Manifest ManifestError
finished number told =
    if nat_lt 0 (length told.sets) && have_romaji told then Ok (manifest_from told) else Err (Bad number)

-- what was told before these lines, and what they tell; the first of them has this number
abbrev pub manifest_after : Told → ℕ → List (List ℕ) → Result Manifest ManifestError
manifest_after told number [] = finished number told
manifest_after told number (line ∷ lines) =
    with_line number told line >>= (λ more. manifest_after more (number + 1) lines)

-- The manifest of these lines; or the first that is bad or too large. It never answers that memory ran out.
unfoldable pub manifest_of : List (List ℕ) → Result Manifest ManifestError
manifest_of lines = manifest_after nothing_told 1 lines

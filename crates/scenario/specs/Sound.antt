-- What each manifest that reads has.
use Rattle.std.specs.Prelude.{◌≡◌, ◌≢◌, ℕ, ◌<◌, ◌≤◌, IsTrue, List, [], All, filter, map, length, slice_index_or, encode_utf8_all}
use Rattle.mz_base.specs.declared.fault.Role.{Role}
use Rattle.mz_base.specs.declared.fault.Role.TheVariants.{Romaji, Dictionary}
use Rattle.scenario.specs.Entries.{is_file, has_file}
use Rattle.scenario.specs.Manifests.{dicts_of}
use Rattle.scenario.specs.declared.manifest.Manifest.{Manifest}
use Rattle.scenario.specs.declared.names.TheConstants.{MOST_NAME_BYTES, MOST_PATH_BYTES}
use Rattle.scenario.specs.declared.manifest.TheConstants.{MOST_SETS, MOST_USERS, MOST_CLIENTS, MOST_DICTIONARIES, MOST_LOADERS}

-- the number of one of so many, from 1
pub record IsOneOf (count : ℕ) (number : ℕ) : Type 0 where
  pub first : 1 ≤ number
  pub last : number ≤ count

-- the manifest is within its limits, its lines name sets and users that there are, and a role stands once in a set
pub record IsWithinLimits (m : Manifest) : Type 0 where
  pub few_sets : length m.sets ≤ MOST_SETS
  pub few_users : length m.users ≤ MOST_USERS
  pub few_clients : length m.clients ≤ MOST_CLIENTS
  pub few_dicts : (user : ℕ) → length (dicts_of user m.dicts) ≤ MOST_DICTIONARIES
  pub loaders : IsOneOf MOST_LOADERS m.loaders
  pub files : All (λ file. IsOneOf (length m.sets) file.set) m.files
  pub dicts : All (λ dict. IsOneOf (length m.users) dict.user) m.dicts
  pub clients : All (λ client. IsOneOf (length m.users) client.user) m.clients
  pub single : (set : ℕ) (role : Role) → role ≢ Dictionary → length (filter (is_file set role) m.files) ≤ 1

-- a text of one byte of UTF-8 or more, and at most so many
pub record IsWithin (most : ℕ) (text : List ℕ) : Type 0 where
  pub some : 1 ≤ length (encode_utf8_all text)
  pub few : length (encode_utf8_all text) ≤ most

abbrev pub IsName : List ℕ → Type 0
IsName name = IsWithin MOST_NAME_BYTES name

abbrev pub IsPath : List ℕ → Type 0
IsPath path = IsWithin MOST_PATH_BYTES path

-- no text stands at two places
abbrev pub AreDistinct : List (List ℕ) → Type 0
AreDistinct texts =
    (i j : ℕ) → i < length texts → j < length texts → slice_index_or texts i [] ≡ slice_index_or texts j [] → i ≡ j

-- names are distinct within their kind, and names and paths have their lengths
pub record IsNamed (m : Manifest) : Type 0 where
  pub sets : All IsName m.sets
  pub sets_apart : AreDistinct m.sets
  pub users : All IsName m.users
  pub users_apart : AreDistinct m.users
  pub clients : All (λ client. IsName client.name) m.clients
  pub clients_apart : AreDistinct (map (λ client. client.name) m.clients)
  pub files : All (λ file. IsPath file.path) m.files
  pub dicts : All (λ dict. IsPath dict.path) m.dicts
  pub scripts : All (λ client. IsPath client.script) m.clients

-- and it has a set, and each set a romaji file
pub record IsSound (m : Manifest) : Type 0 where
  pub limits : IsWithinLimits m
  pub some_set : 0 < length m.sets
  pub romaji : (set : ℕ) → IsOneOf (length m.sets) set → IsTrue (has_file m.files set Romaji)
  pub named : IsNamed m

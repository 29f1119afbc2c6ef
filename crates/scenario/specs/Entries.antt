-- What each kind of line of a manifest says, by its fields after the first word: docs/FORMATS.md, "Manifest".
-- Where it says nothing, the line is bad.
use Rattle.std.specs.Prelude.{ℕ, ◌==◌, ◌&&◌, ◌||◌, Bool, false, not, List, [], ◌∷◌, Option, Some, None, option_map, if◌then◌else◌, codes, bytes_eq, nat_le}
use Rattle.std.specs.List.{list_any}
use Rattle.std.specs.Str.{chars}
use Rattle.mz_base.specs.Data.{is_text}
use Rattle.mz_base.specs.Faults.{same_role}
use Rattle.mz_base.specs.Numbers.{number_of}
use Rattle.mz_base.specs.declared.fault.Role.{Role}
use Rattle.mz_base.specs.declared.fault.Role.TheVariants.{Dictionary}
use Rattle.scenario.specs.Names.{is_name, is_path, new_name, number_among, role_of}
use Rattle.scenario.specs.declared.manifest.ClientLine.{ClientLine}
use Rattle.scenario.specs.declared.manifest.DictLine.{DictLine}
use Rattle.scenario.specs.declared.manifest.FileLine.{FileLine}
use Rattle.scenario.specs.declared.manifest.TheConstants.{MOST_LOADERS}

-- `DATASET name` and `USER name`: a new name
abbrev pub name_of : List (List ℕ) → List (List ℕ) → Option (List ℕ)
name_of names (name ∷ []) = new_name names name
name_of names _ = None

-- a file of this set and role
abbrev pub is_file : ℕ → Role → FileLine → Bool
is_file set role file = file.set == set && same_role file.role role

-- the set has a file of this role
abbrev pub has_file : List FileLine → ℕ → Role → Bool
has_file files set role = list_any (is_file set role) files

-- a set has many dictionaries, and one file of each other role
abbrev pub may_have : List FileLine → ℕ → Role → Bool
may_have files set role = same_role role Dictionary || not (has_file files set role)

abbrev pub file_from : List FileLine → Option ℕ → Option Role → List ℕ → Option FileLine
file_from files (Some set) (Some role) path =
    if may_have files set role && is_path path then Some (record { set = set; role = role; path = chars path }) else None
file_from files _ _ path = None

-- `FILE set role path`: a file of an earlier set
abbrev pub file_of : List (List ℕ) → List FileLine → List (List ℕ) → Option FileLine
file_of sets files (set ∷ role ∷ path ∷ []) = file_from files (number_among sets set) (role_of role) path
file_of sets files _ = None

-- `USERDICT user path`: a dictionary of an earlier user
abbrev pub dict_of : List (List ℕ) → List (List ℕ) → Option DictLine
dict_of users (user ∷ path ∷ []) =
    if is_path path then option_map (λ number. record { user = number; path = chars path }) (number_among users user) else None
dict_of users _ = None

-- some client has this name
abbrev pub has_client : List ClientLine → List ℕ → Bool
has_client clients name = list_any (λ client. is_text name client.name) clients

-- `CLIENT name user script`: a new name for a client of an earlier user
abbrev pub client_of : List (List ℕ) → List ClientLine → List (List ℕ) → Option ClientLine
client_of users clients (name ∷ user ∷ script ∷ []) =
    if is_name name && (not (has_client clients (chars name)) && is_path script) then option_map (λ number. record { name = chars name; user = number; script = chars script }) (number_among users user) else None
client_of users clients _ = None

-- one loader or more, and at most so many
abbrev pub few_loaders : Option ℕ → Option ℕ
few_loaders None = None
few_loaders (Some loaders) = if nat_le 1 loaders && nat_le loaders MOST_LOADERS then Some loaders else None

-- `LOADERS n`, where no such line stood before
abbrev pub loaders_of : Option ℕ → List (List ℕ) → Option ℕ
loaders_of None (loaders ∷ []) = few_loaders (number_of loaders)
loaders_of before _ = None

-- `CERTIFICATES on`, where no such line stood before
abbrev pub turns_on : Bool → List (List ℕ) → Bool
turns_on before (word ∷ []) = bytes_eq word (codes "on") && not before
turns_on before _ = false

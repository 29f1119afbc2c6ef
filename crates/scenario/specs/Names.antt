-- Names, paths and roles of a manifest: docs/FORMATS.md, "Manifest".
use Rattle.std.specs.Prelude.{ℕ, ◌+◌, ◌&&◌, Bool, not, List, Option, Some, None, option_map, position, if◌then◌else◌, codes, length, bytes_eq, nat_le}
use Rattle.std.specs.List.{list_any}
use Rattle.std.specs.Str.{chars}
use Rattle.mz_base.specs.Data.{is_text}
use Rattle.mz_base.specs.declared.fault.Role.{Role}
use Rattle.mz_base.specs.declared.fault.Role.TheVariants.{Connection, Id, Unk, Segment, UserPos, Romaji, Dictionary, Symbol, Kanji}
use Rattle.scenario.specs.declared.names.TheConstants.{MOST_NAME_BYTES, MOST_PATH_BYTES}

-- a text that may be a name; its length counts bytes
abbrev pub is_name : List ℕ → Bool
is_name name = nat_le 1 (length name) && nat_le (length name) MOST_NAME_BYTES

-- a text that may be a path
abbrev pub is_path : List ℕ → Bool
is_path path = nat_le 1 (length path) && nat_le (length path) MOST_PATH_BYTES

-- one of these texts is this one
abbrev pub is_among : List (List ℕ) → List ℕ → Bool
is_among texts text = list_any (is_text text) texts

-- a name that none of these is
abbrev pub new_name : List (List ℕ) → List ℕ → Option (List ℕ)
new_name names name = if is_name name && not (is_among names (chars name)) then Some (chars name) else None

-- the number of a name among these, from 1
abbrev pub number_among : List (List ℕ) → List ℕ → Option ℕ
number_among names name = option_map (λ place. place + 1) (position (is_text (chars name)) names)

-- the role that a word names
unfoldable pub role_of : List ℕ → Option Role
role_of word =
    if bytes_eq word (codes "connection") then Some Connection else
    if bytes_eq word (codes "id") then Some Id else
    if bytes_eq word (codes "unk") then Some Unk else
    if bytes_eq word (codes "segment") then Some Segment else
    if bytes_eq word (codes "user_pos") then Some UserPos else
    if bytes_eq word (codes "romaji") then Some Romaji else
    if bytes_eq word (codes "dictionary") then Some Dictionary else
    if bytes_eq word (codes "symbol") then Some Symbol else
    if bytes_eq word (codes "kanji") then Some Kanji else
    None

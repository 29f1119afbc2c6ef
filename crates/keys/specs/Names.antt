-- What keys are called: docs/FORMATS.md, "Keys".
use Rattle.std.specs.Prelude.{◌≡◌, ◌⊎◌, ℕ, ◌==◌, ◌&&◌, Bool, not, List, [], ◌∷◌, Option, Some, None, if◌then◌else◌, bytes_eq, codes, nat_lt}
use Rattle.keys.specs.declared.key.Key.{Key}
use Rattle.keys.specs.declared.key.Key.TheVariants as key

-- a character that is a key of its own: no control character, and not the space
abbrev pub is_typed : ℕ → Bool
is_typed c = nat_lt 32 c && not (c == 127)

-- the key of a single character
abbrev pub key_of_char : ℕ → Option Key
key_of_char c = if c == 32 then Some key.Space else (if is_typed c then Some (key.Char c) else None)

-- the names of keys
abbrev pub names : List (List ℕ × Key)
names =
    (codes "Space", key.Space) ∷ (codes "Enter", key.Enter) ∷ (codes "Escape", key.Escape)
    ∷ (codes "Backspace", key.Backspace) ∷ (codes "Delete", key.Delete)
    ∷ (codes "Left", key.Left) ∷ (codes "Right", key.Right) ∷ (codes "Home", key.Home) ∷ (codes "End", key.End)
    ∷ (codes "Up", key.Up) ∷ (codes "Down", key.Down)
    ∷ (codes "Shift Left", key.ShiftLeft) ∷ (codes "Shift Right", key.ShiftRight) ∷ []

-- the key of this name, where one of these has it
abbrev pub key_among : List (List ℕ × Key) → List ℕ → Option Key
key_among [] name = None
key_among (named ∷ rest) name = if bytes_eq name named.0 then Some named.1 else key_among rest name

-- the key of a name; a single character names its own
unfoldable pub key_of : List ℕ → Option Key
key_of (c ∷ []) = key_of_char c
key_of name = key_among names name

-- one of these is this name, and this its key
abbrev pub IsAmong : List (List ℕ × Key) → List ℕ → Key → Type 0
IsAmong [] name k = ⊥
IsAmong (named ∷ rest) name k = ((named.0 ≡ name) × (named.1 ≡ k)) ⊎ IsAmong rest name k

-- the name is a single character, and this its key
abbrev pub IsSingle : List ℕ → Key → Type 0
IsSingle name k = (c : ℕ) × (name ≡ c ∷ []) × (key_of_char c ≡ Some k)

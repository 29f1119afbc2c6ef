-- The program's table of names. What it must say: Names.antt.
use Rattle.std.specs.Prelude.{ℕ, Bool, List, bytes_eq}
use Rattle.std.specs.Borrow.{Bor}
use Rattle.keys.specs.declared.key.Key.{Key}

-- a row of the table
abbrev pub NamedKey : Type 0
NamedKey = Bor (List ℕ) × Key

-- its name and key; a name has only ASCII characters, whose codes are its bytes
abbrev pub called : NamedKey → List ℕ × Key
called row = (row.0.now, row.1)

abbrev pub is_named : List ℕ → NamedKey → Bool
is_named name row = bytes_eq name row.0.now

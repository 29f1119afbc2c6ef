-- The lines of a file and the fields of a line: docs/FORMATS.md, "Lines and fields".
use Rattle.std.specs.Prelude.{ℕ, ◌-◌, ◌==◌, ◌||◌, Bool, List, [], ◌∷◌, map, Option, Some, None, if◌then◌else◌, length, take, drop, slice_index, nat_eq}
use Rattle.std.specs.Borrow.{Bor}
use Rattle.std.specs.List.{slice_split, starts_with}
use Rattle.std.specs.Str.{is_utf8}
use Rattle.std.specs.Str.Lines.{strip_carriage_return}

-- a byte order mark
abbrev pub byte_order_mark : List ℕ
byte_order_mark = 0xEF ∷ 0xBB ∷ 0xBF ∷ []

-- a byte order mark at the start of a file is dropped
abbrev pub without_mark : List ℕ → List ℕ
without_mark bytes = if starts_with nat_eq bytes byte_order_mark then drop 3 bytes else bytes

-- the line feed that ends the last line opens no further one
abbrev pub without_last_feed : List ℕ → List ℕ
without_last_feed bytes =
    if slice_index bytes (length bytes - 1) == 10 then take (length bytes - 1) bytes else bytes

-- the lines of a text that isn't empty: its parts between line feeds, each less one carriage return at its end
unfoldable pub lines_in : List ℕ → List (List ℕ)
lines_in text = map strip_carriage_return (slice_split (λ b. b == 10) (without_last_feed text))

-- the lines of a file
unfoldable pub lines_of : List ℕ → List (List ℕ)
lines_of bytes =
    if length (without_mark bytes) == 0 then [] else lines_in (without_mark bytes)

-- the bytes of a line that is text
abbrev pub text_line : List ℕ → Option (List ℕ)
text_line line = if is_utf8 line then Some line else None

-- an empty line, and a line that begins with #
abbrev pub is_skipped : List ℕ → Bool
is_skipped line = length line == 0 || slice_index line 0 == 35

-- the fields of a line, which one tab separates
abbrev pub fields_of : List ℕ → List (List ℕ)
fields_of line = slice_split (λ b. b == 9) line

-- what the references of a list point to
abbrev pub pointed : List (Bor (List ℕ)) → List (List ℕ)
pointed parts = map (λ part. part.now) parts

-- the parts of a text between line feeds, where there is a text
abbrev pub parts_left : Option (Bor (List ℕ)) → List (List ℕ)
parts_left None = []
parts_left (Some text) = slice_split (λ b. b == 10) text.now

-- the fields of a text, where there is a text
abbrev pub fields_left : Option (Bor (List ℕ)) → List (List ℕ)
fields_left None = []
fields_left (Some text) = fields_of text.now

-- The classes of characters: docs/FORMATS.md, "Characters".
use Rattle.std.specs.Prelude.{ℕ, Bool, ◌&&◌, ◌||◌, ◌==◌, nat_le, if◌then◌else◌}
use Rattle.mz_base.specs.declared.data.Class.{Class}
use Rattle.mz_base.specs.declared.data.Class.TheVariants.{Hiragana, Katakana, Digit, Letter, Other}

-- a character from the first to the last
abbrev pub is_from : ℕ → ℕ → ℕ → Bool
is_from first last c = nat_le first c && nat_le c last

-- U+3041 to U+3096
abbrev pub is_hiragana : ℕ → Bool
is_hiragana c = is_from 0x3041 0x3096 c

-- U+30A1 to U+30FA and the long vowel mark
abbrev pub is_katakana : ℕ → Bool
is_katakana c = is_from 0x30A1 0x30FA c || c == 0x30FC

-- 0 to 9, half and full width
abbrev pub is_digit : ℕ → Bool
is_digit c = is_from 48 57 c || is_from 0xFF10 0xFF19 c

-- A to Z and a to z, half and full width
abbrev pub is_letter : ℕ → Bool
is_letter c = ((is_from 65 90 c || is_from 97 122 c) || is_from 0xFF21 0xFF3A c) || is_from 0xFF41 0xFF5A c

-- the class of a character
unfoldable pub class_of : ℕ → Class
class_of c =
    if is_hiragana c then Hiragana else (
    if is_katakana c then Katakana else (
    if is_digit c then Digit else (
    if is_letter c then Letter else Other
    )
    )
    )

use Rattle.std.proofs.Common.{◌≡◌, ℕ, List, [], ◌∷◌, eqb, length, sym, ap, ◌∙◌, arith, encode_utf8_all}
use Rattle.std.specs.Str.{chars, IsUtf8}
use Rattle.std.proofs.lemmas.Bool.Decides.{nat_tests}
use Rattle.std.proofs.lemmas.Str.{chars-encodes, chars-nil}
use Rattle.dict_rows.proofs.columns.is_blank.Goals as goal

-- the spelling of the characters of a text is its bytes
encodes-chars : (bytes : List ℕ) → IsUtf8 bytes → encode_utf8_all (chars bytes) ≡ bytes
encodes-chars bytes (cs, (scalar, spelt)) =
    ap (λ bs. encode_utf8_all (chars bs)) (sym spelt) ∙ ap encode_utf8_all (chars-encodes cs scalar) ∙ spelt

-- a text without characters has no bytes, and the other way round
blank : (bytes : List ℕ) → IsUtf8 bytes → eqb (length bytes) 0 ≡ eqb (length (chars bytes)) 0
blank [] utf8 = ap (λ letters. eqb (length letters) 0) (sym chars-nil)
blank (b ∷ bytes) utf8 = some (chars (b ∷ bytes)) (encodes-chars (b ∷ bytes) utf8)
  where
    some : (letters : List ℕ) → encode_utf8_all letters ≡ b ∷ bytes → eqb (length (b ∷ bytes)) 0 ≡ eqb (length letters) 0
    some [] spelt = absurd (omega (arith, ap length spelt))
    some (c ∷ letters) spelt = grind (arith, nat_tests)

pub returns : goal.returns
returns c = c.is_empty.ensures ∙ blank c.args.field.now c.utf8.field

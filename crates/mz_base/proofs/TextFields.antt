-- The fields of a line that is text are texts, and a field that is not long makes a short text.
use Rattle.std.proofs.Common.{◌≡◌, ℕ, ◌+◌, ◌≤◌, true, false, List, [], ◌∷◌, ◌++◌, length, get_or, refl, sym, subst, arith, length-append}
use Rattle.std.specs.List.{AllByRecursion, join_with_byte}
use Rattle.std.specs.Str.{chars, is_utf8, IsUtf8}
use Rattle.std.specs.Prelude.{encode_utf8_all}
use Rattle.std.proofs.lemmas.Bool.{ltb-false}
use Rattle.std.proofs.lemmas.List.Splits.{join_with_byte-slice_split}
use Rattle.std.proofs.lemmas.Str.{IsUtf8-append, IsUtf8-from_is_utf8, IsUtf8-take, IsUtf8-drop, IsCharBoundary-after_ascii, IsCharBoundary-at_seam, encodes-chars}
use Rattle.std.proofs.Math.Seq.{take-append_seam, drop-append-add, get_or-append_seam}
use Rattle.mz_base.specs.Data.{IsShort}
use Rattle.mz_base.specs.Limits.{is_long}
use Rattle.mz_base.specs.Lines.{fields_of}
use Rattle.mz_base.specs.declared.data.TheConstants.{MOST_FIELD_BYTES}

tab-utf8 : IsUtf8 (9 ∷ [])
unfolding is_utf8 chars lib.Utf8.encode
tab-utf8 = IsUtf8-from_is_utf8 (9 ∷ []) refl

module _ (part rest : List ℕ) (whole : IsUtf8 (part ++ 9 ∷ rest)) where
  -- what stands behind a tab
  behind : IsUtf8 rest
  behind =
      let bytes = part ++ 9 ∷ rest in
      let at : get_or bytes (length part) 0 ≡ 9 = get_or-append_seam part 9 rest 0 in
      let inside : length part + 1 ≤ length bytes = omega (arith, length-append part (9 ∷ rest)) in
      let cut = IsCharBoundary-after_ascii bytes (length part) whole (omega (arith, inside)) (omega (arith, at)) in
      subst IsUtf8 (drop-append-add part (9 ∷ rest) 1) (IsUtf8-drop bytes (length part + 1) whole cut)

  -- what stands before it
  ahead : IsUtf8 part
  ahead =
      let bytes = part ++ 9 ∷ rest in
      let tail : IsUtf8 (9 ∷ rest) = IsUtf8-append (9 ∷ []) rest tab-utf8 behind in
      let cut = IsCharBoundary-at_seam bytes part (9 ∷ rest) refl tail in
      subst IsUtf8 (take-append_seam part (9 ∷ rest)) (IsUtf8-take bytes (length part) whole cut)

joined-parts : (part : List ℕ) (parts : List (List ℕ)) → IsUtf8 (join_with_byte 9 (part ∷ parts)) → AllByRecursion IsUtf8 (part ∷ parts)
joined-parts part [] whole = (whole, tt)
joined-parts part (next ∷ parts) whole =
    let rest = join_with_byte 9 (next ∷ parts) in
    (ahead part rest whole, joined-parts next parts (behind part rest whole))

any-parts : (parts : List (List ℕ)) → IsUtf8 (join_with_byte 9 parts) → AllByRecursion IsUtf8 parts
any-parts [] whole = tt
any-parts (part ∷ parts) whole = joined-parts part parts whole

-- each field is text
pub fields-utf8 : (line : List ℕ) → is_utf8 line ≡ true → AllByRecursion IsUtf8 (fields_of line)
fields-utf8 line is =
    any-parts (fields_of line) (subst IsUtf8 (sym (join_with_byte-slice_split 9 line)) (IsUtf8-from_is_utf8 line is))

-- the bytes of a field's characters are the field
pub IsShort-field : (field : List ℕ) → IsUtf8 field → is_long field ≡ false → IsShort (chars field)
IsShort-field field text short =
    let same : encode_utf8_all (chars field) ≡ field = encodes-chars field text in
    subst (λ bytes. length bytes ≤ MOST_FIELD_BYTES) (sym same) (ltb-false MOST_FIELD_BYTES (length field) short)

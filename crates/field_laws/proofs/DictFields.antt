-- The words of a user's dictionary are fields of a report.
use Rattle.std.proofs.Common.{◌≡◌, ℕ, ◌+◌, eqb, nat_le, if◌then◌else◌, List, [], ◌∷◌, ◌++◌, length, Option, Some, None, Result, Ok, Err, refl, subst, inl, inr}
use Rattle.std.specs.List.{All, AllByRecursion}
use Rattle.std.specs.Str.{chars, is_utf8}
use Rattle.std.proofs.lemmas.Bool.{cases_Bool}
use Rattle.std.proofs.lemmas.List.Elements.{All-append, All-cons, All-nil}
use Rattle.mz_base.specs.Answers.{◌>>=◌}
use Rattle.mz_base.specs.Lines.{fields_of, is_skipped, lines_of}
use Rattle.mz_base.specs.declared.user.TheConstants.{MOST_USER_ROWS}
use Rattle.mz_base.specs.declared.user.UserRow.{UserRow}
use Rattle.mz_base.proofs.AnswerLemmas.{part_gave}
use Rattle.session_meaning.specs.Fields.{IsField}
use Rattle.user_dict.specs.Rows.{RowFields, Taken, has, is_past, made_row, row_fields, take_fields, take_full, take_line, take_lines, take_new, take_row, taken_of, with_row, with_skip}
use Rattle.user_dict.specs.declared.error.ImportError.{ImportError}
use Rattle.user_dict.specs.declared.error.ImportError.TheVariants as error
use Rattle.user_dict.specs.declared.skipped.Skip.TheVariants as skip
use Rattle.field_laws.specs.FieldLaws.{DictionariesAreFields}
use Rattle.field_laws.proofs.FieldParts.{AreNoFeeds, IsPart, fields-parts, lines-no_feeds, part-field}

abbrev IsWordField : UserRow → Type 0
IsWordField row = IsField row.word

abbrev AreWordFields : Taken → Type 0
AreWordFields taken = All IsWordField taken.rows

abbrev given : Taken → Result Taken ImportError
given taken = Ok taken

-- what is taken further has such words alone
same-taken : (taken next : Taken) → AreWordFields taken → given taken ≡ Ok next → AreWordFields next
same-taken taken next are is = let same : taken ≡ next = cc in subst AreWordFields same are

new-taken : (taken : Taken) (row : UserRow) (next : Taken) → IsWordField row → AreWordFields taken → take_new taken row ≡ Ok next → AreWordFields next
new-taken taken row next field are is =
    elim (cases_Bool (nat_le MOST_USER_ROWS (length taken.rows))) [
      | inl many ↦ let never : Err (error.Limit row.line) ≡ Ok next = rw many at is in absurd cc
      | inr few ↦ same-taken (with_row taken row) next (All-append IsWordField taken.rows (row ∷ []) are (All-cons IsWordField row [] field (All-nil IsWordField))) (rw few at is)
    ]

full-taken : (taken : Taken) (row : UserRow) (next : Taken) → IsWordField row → AreWordFields taken → take_full taken row ≡ Ok next → AreWordFields next
full-taken taken row next field are is =
    elim (cases_Bool (has taken.rows row)) [
      | inl there ↦ same-taken taken next are (rw there at is)
      | inr new ↦ elim (cases_Bool (is_past taken.rows row)) [
        | inl past ↦ same-taken (with_skip taken row.line skip.Limit) next are (rw (new, past) at is)
        | inr within ↦ new-taken taken row next field are (rw (new, within) at is)
      ]
    ]

row-taken : (taken : Taken) (row : UserRow) (next : Taken) → IsWordField row → AreWordFields taken → take_row taken row ≡ Ok next → AreWordFields next
row-taken taken row next field are is =
    elim (cases_Bool (eqb (length row.reading) 0)) [
      | inl empty ↦ same-taken (with_skip taken row.line skip.Reading) next are (rw empty at is)
      | inr some ↦ elim (cases_Bool (eqb (length row.word) 0)) [
        | inl empty ↦ same-taken (with_skip taken row.line skip.Word) next are (rw (some, empty) at is)
        | inr full ↦ full-taken taken row next field are (rw (some, full) at is)
      ]
    ]

abbrev ArePartsOf : Option RowFields → Type 0
ArePartsOf None = Unit {0}
ArePartsOf (Some fields) = IsPart fields.word

row-parts : (fields : List (List ℕ)) → AllByRecursion IsPart fields → ArePartsOf (row_fields fields)
row-parts [] all = tt
row-parts (a ∷ []) all = tt
row-parts (a ∷ b ∷ []) all = tt
row-parts (a ∷ word ∷ pos ∷ more) all = all.1.0

fields-taken : (taken : Taken) (number : ℕ) (fields : Option RowFields) (next : Taken) → ArePartsOf fields → AreWordFields taken → take_fields taken number fields ≡ Ok next → AreWordFields next
fields-taken taken number None next parts are is =
    same-taken (with_skip taken number skip.Fields) next are is
fields-taken taken number (Some fields) next parts are is =
    row-taken taken (made_row number fields) next (part-field fields.word parts) are is

line-taken : (taken : Taken) (number : ℕ) (line : List ℕ) (next : Taken) → AreNoFeeds line → AreWordFields taken → take_line taken number line ≡ Ok next → AreWordFields next
unfolding take_line
line-taken taken number line next plain are is =
    elim (cases_Bool (is_utf8 line)) [
      | inl text ↦ elim (cases_Bool (is_skipped line)) [
        | inl skipped ↦ same-taken taken next are (rw (text, skipped) at is)
        | inr row ↦ fields-taken taken number (row_fields (fields_of line)) next (row-parts (fields_of line) (fields-parts line text plain)) are (rw (text, row) at is)
      ]
      | inr bytes ↦ let never : Err (error.NotUtf8 number) ≡ Ok next = rw bytes at is in absurd cc
    ]

lines-taken : (taken : Taken) (number : ℕ) (lines : List (List ℕ)) (next : Taken) → AllByRecursion AreNoFeeds lines → AreWordFields taken → take_lines taken number lines ≡ Ok next → AreWordFields next
unfolding take_lines
lines-taken taken number [] next plain are is = same-taken taken next are is
lines-taken taken number (line ∷ lines) next plain are is =
    let (more, read, rest) = part_gave (take_line taken number line) (λ taken. take_lines taken (number + 1) lines) next is in
    lines-taken more (number + 1) lines next plain.1 (line-taken taken number line more plain.0 are read) rest

pub dictionaries-are_fields : DictionariesAreFields
dictionaries-are_fields bytes taken is =
    lines-taken (record { rows = []; skipped = [] }) 1 (lines_of bytes) taken (lines-no_feeds bytes) (All-nil IsWordField) is

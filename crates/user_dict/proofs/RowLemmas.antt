-- Rows among those that are kept, and the bytes of texts.
use Rattle.std.proofs.Common.{◌≡◌, ℕ, ◌+◌, ◌<◌, ◌≤◌, Bool, true, false, cond, List, [], ◌∷◌, ◌++◌, length, get_or, map, take, drop, is_some, Option, Some, None, Ok, Err, encode_utf8, encode_utf8_all, length-append, take-append-drop, refl, ap, sym, ◌∙◌, arith}
use Rattle.std.specs.Prelude.{◌||◌, nat_le}
use Rattle.std.specs.Char.{len_utf8}
use Rattle.std.specs.List.{list_any}
use Rattle.std.specs.Map.{lookup}
use Rattle.std.proofs.lemmas.Bool.Decides.{nat_tests}
use Rattle.std.proofs.lemmas.List.{length-map, map-append, take_more}
use Rattle.std.proofs.lemmas.Str.{encodes-append, length-encode}
use Rattle.mz_base.specs.declared.user.UserRow.{UserRow}
use Rattle.mz_base.specs.declared.user.TheConstants.{MOST_USER_ROWS}
use Rattle.user_dict.specs.Kept.{row_of_entry, row_of_words}
use Rattle.user_dict.specs.Rows.{Taken, take_line, take_lines, take_new}
use Rattle.user_dict.specs.declared.error.ImportError.{ImportError}
use Rattle.user_dict.specs.declared.skipped.SkippedLine.{SkippedLine}
use Rattle.user_dict.specs.declared.words.Words.{Words}

-- ---- What is there

or-some : (b : Bool) (line : ℕ) (found : Option ℕ) → is_some (cond b (Some line) found) ≡ (b || is_some found)
or-some true line found = refl
or-some false line found = refl

-- an entry is found where a row of them passes
pub any-lookup : (p : Words → Bool) (q : UserRow → Bool) → ((words : Words) (line : ℕ) → p words ≡ q (row_of_words words line)) → (entries : List (Words × ℕ)) → is_some (lookup p entries) ≡ list_any q (map row_of_entry entries)
any-lookup p q same [] = refl
any-lookup p q same (entry ∷ entries) =
    or-some (p entry.0) entry.1 (lookup p entries)
    ∙ (ap (λ b. b || is_some (lookup p entries)) (same entry.0 entry.1) ∙ ap (λ b. q (row_of_entry entry) || b) (any-lookup p q same entries))

pub none-found : (found : Option ℕ) → is_some found ≡ false → found ≡ None
none-found None none = refl
none-found (Some line) none = absurd cc

-- a new entry is a row more
pub taken-new : (entries after : List (Words × ℕ)) (words : Words) (line : ℕ) (skipped : List SkippedLine) → after ≡ entries ++ (words, line) ∷ [] → length entries < MOST_USER_ROWS → take_new (record { rows = map row_of_entry entries; skipped = skipped }) (row_of_words words line) ≡ Ok (record { rows = map row_of_entry after; skipped = skipped })
taken-new entries after words line skipped more few =
    let rows = ap (map row_of_entry) more ∙ map-append row_of_entry entries ((words, line) ∷ []) in
    let room : nat_le MOST_USER_ROWS (length (map row_of_entry entries)) ≡ false = grind (arith, nat_tests, few, length-map entries row_of_entry) in
    rw room (ap (λ (rows : List UserRow). Ok (record { rows = rows; skipped = skipped })) (sym rows))

-- ---- Line by line

pub take_lines-read : (taken next : Taken) (number : ℕ) (line : List ℕ) (lines : List (List ℕ)) → take_line taken number line ≡ Ok next → take_lines taken number (line ∷ lines) ≡ take_lines next (number + 1) lines
unfolding take_lines
take_lines-read taken next number line lines is = rw is refl

pub take_lines-refused : (taken : Taken) (number : ℕ) (line : List ℕ) (lines : List (List ℕ)) (error : ImportError) → take_line taken number line ≡ Err error → take_lines taken number (line ∷ lines) ≡ Err error
unfolding take_lines
take_lines-refused taken number line lines error is = rw is refl

pub take_lines-end : (taken : Taken) (number : ℕ) → take_lines taken number [] ≡ Ok taken
unfolding take_lines
take_lines-end taken number = refl

-- ---- How many bytes a text has

-- of one character more
pub bytes-more : (text : List ℕ) (k d : ℕ) → k < length text → length (encode_utf8_all (take (k + 1) text)) ≡ length (encode_utf8_all (take k text)) + len_utf8 (get_or text k d)
bytes-more text k d inside =
    let more = ap (λ cs. length (encode_utf8_all cs)) (take_more text k d inside) in
    let split = ap (λ bs. length bs) (encodes-append (take k text) (get_or text k d ∷ [])) in
    let long = length-append (encode_utf8_all (take k text)) (encode_utf8_all (get_or text k d ∷ [])) in
    let one = length-append (encode_utf8 (get_or text k d)) [] in
    omega (arith, more, split, long, one, length-encode (get_or text k d))

-- the front of a text has no more bytes
pub front-bytes : (text : List ℕ) (k : ℕ) → length (encode_utf8_all (take k text)) ≤ length (encode_utf8_all text)
front-bytes text k =
    let whole = ap (λ cs. length (encode_utf8_all cs)) (take-append-drop k text) in
    let split = ap (λ bs. length bs) (encodes-append (take k text) (drop k text)) in
    let long = length-append (encode_utf8_all (take k text)) (encode_utf8_all (drop k text)) in
    omega (arith, whole, split, long)

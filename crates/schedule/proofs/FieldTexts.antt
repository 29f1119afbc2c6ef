-- Names and numbers as fields: they have no tab and no line feed, and they read as they are.
use Rattle.std.proofs.Common.{◌≡◌, ◌≢◌, ℕ, suc, zero, ◌+◌, ◌-◌, ◌/◌, ◌%◌, ◌<◌, ◌≤◌, ◌^◌, Bool, true, false, cond, not, ltb, ◌&&◌, ◌==◌, List, [], ◌∷◌, ◌++◌, Some, None, option_and_then, length, get_or, slice_index_or, nat_le, nat_lt, bytes_eq, encode_utf8, encode_utf8_all, refl, ap, ◌∙◌, arith, rules}
use Rattle.std.specs.Char.{is_ascii_digit}
use Rattle.std.specs.Fmt.{decimal}
use Rattle.std.specs.List.{AllByRecursion, list_all}
use Rattle.std.specs.Str.{IsAscii, IsUtf8}
use Rattle.std.specs.Str.Parse.{digits_value}
use Rattle.std.proofs.lemmas.Bool.{cond-true, cond-false, ne_eqb, and_from, false_from_ne_true}
use Rattle.std.proofs.lemmas.Bool.Decides.{nat_tests}
use Rattle.std.proofs.lemmas.Fmt.{digits_decimal, digits_value-decimal, decimal_nonempty, length-decimal-le, IsAscii-decimal}
use Rattle.std.proofs.lemmas.List.Elements.{recursion_from_All}
use Rattle.std.proofs.lemmas.List.Folds.{list_all-append}
use Rattle.std.proofs.lemmas.List.Sums.{AllPass-from_list_all, list_all-from_AllPass}
use Rattle.std.proofs.lemmas.Slice.Eq.{bytes_eq-Decides}
use Rattle.std.proofs.lemmas.Str.{IsUtf8-append, IsUtf8-encode, IsUtf8-nil, IsUtf8-from_ascii, encodes_same}
use Rattle.std.proofs.lemmas.Str.Ascii.{IsAscii-cons}
use Rattle.std.proofs.lemmas.Str.Parse.{IsNumeralModel, numerals_by_value}
use Rattle.mz_base.specs.Numbers.{is_numeral, unsigned_of, number_of}
use Rattle.schedule.specs.Events.{in_range, number_in}
use Rattle.schedule.specs.Names.{number_from, number_of_name, name_of, IsOneOf}
use Rattle.schedule.specs.Written.{AreApart, EndsInNoReturn, IsFieldCharacter, IsFieldName}
use Rattle.schedule.specs.declared.event_line.TheConstants.{MOST_NUMBER}
use Rattle.schedule.proofs.SplitLines.{last_of, last_of-join}

-- a byte of a field
abbrev pub is_field_byte : ℕ → Bool
is_field_byte b = not (b == 9) && not (b == 10)

-- text that can be a field
pub record IsFieldText (text : List ℕ) : Type 0 where
  pub utf8 : IsUtf8 text
  pub bytes : list_all is_field_byte text ≡ true

-- ---- Words

abbrev is_ascii : ℕ → Bool
is_ascii b = nat_lt b 128

list_all-ascii : (text : List ℕ) → list_all is_ascii text ≡ true → IsAscii text
list_all-ascii [] is = λ i. omega arith
list_all-ascii (b ∷ text) is =
    IsAscii-cons b text (let here : is_ascii b ≡ true = AllPass-from_list_all is_ascii (b ∷ text) is 0 0 (omega arith) in grind (arith, nat_tests)) (list_all-ascii text (list_all-from_AllPass is_ascii text (λ k d inside. AllPass-from_list_all is_ascii (b ∷ text) is (suc k) d (omega arith))))

pub IsFieldText-word : (word : List ℕ) → list_all is_ascii word ≡ true → list_all is_field_byte word ≡ true → IsFieldText word
IsFieldText-word word is bytes = record { utf8 = IsUtf8-from_ascii word (list_all-ascii word is); bytes = bytes }

-- ---- Numbers

own : IsNumeralModel (λ ds. list_all is_ascii_digit ds ≡ true) (digits_value 10)
own = numerals_by_value _ (search rules)

pub digits-decimal : (n : ℕ) → n < 2 ^ 64 → list_all is_ascii_digit (decimal n) ≡ true
digits-decimal n fits = digits_decimal own n fits

digit-field : (b : ℕ) → is_ascii_digit b ≡ true → is_field_byte b ≡ true
digit-field b is = grind (arith, nat_tests)

digit-no_return : (b : ℕ) → is_ascii_digit b ≡ true → (b == 13) ≡ false
digit-no_return b is = ne_eqb b 13 (λ e. grind (arith, nat_tests))

pub IsFieldText-decimal : (n : ℕ) → n ≤ MOST_NUMBER → IsFieldText (decimal n)
IsFieldText-decimal n small =
    record { utf8 = IsUtf8-from_ascii (decimal n) (IsAscii-decimal n (omega arith)); bytes = list_all-from_AllPass is_field_byte (decimal n) (λ k d inside. digit-field (get_or (decimal n) k d) (AllPass-from_list_all is_ascii_digit (decimal n) (digits-decimal n (omega arith)) k d inside)) }

last-digits : (x : ℕ) (ds : List ℕ) → (x == 13) ≡ false → AllByRecursion (λ b. (b == 13) ≡ false) ds → (last_of x ds == 13) ≡ false
last-digits x [] here all = here
last-digits x (d ∷ ds) here all = last-digits d ds all.0 all.1

pub last-decimal : (n : ℕ) → n ≤ MOST_NUMBER → (last_of 9 (decimal n) == 13) ≡ false
last-decimal n small =
    last-digits 9 (decimal n) refl (recursion_from_All _ (decimal n) (λ k d inside. digit-no_return (get_or (decimal n) k d) (AllPass-from_list_all is_ascii_digit (decimal n) (digits-decimal n (omega arith)) k d inside)))

is_numeral-few : (most : ℕ) (text : List ℕ) → 0 < length text → length text ≤ most → list_all is_ascii_digit text ≡ true → is_numeral most text ≡ true
is_numeral-few most text some few digits = grind (arith, nat_tests)

number_of-decimal : (n : ℕ) → n ≤ MOST_NUMBER → number_of (decimal n) ≡ Some n
unfolding unsigned_of
number_of-decimal n small =
    let is = is_numeral-few 10 (decimal n) (decimal_nonempty n (omega arith)) (length-decimal-le 10 n (omega arith) (omega arith) (omega arith)) (digits-decimal n (omega arith)) in
    cond-true (is_numeral 10 (decimal n)) (Some (digits_value 10 (decimal n))) None is ∙ ap Some (digits_value-decimal own n (omega arith))

pub number_in-decimal : (n : ℕ) → n ≤ MOST_NUMBER → number_in (decimal n) ≡ Some n
number_in-decimal n small =
    let is : nat_le n MOST_NUMBER ≡ true = grind (arith, nat_tests) in
    ap (option_and_then in_range) (number_of-decimal n small) ∙ cond-true (nat_le n MOST_NUMBER) (Some n) None is

-- ---- Names

-- what holds of a character below 128 and of all bytes from there on holds of the bytes of a character
encode-all : (p : ℕ → Bool) (c : ℕ) → ((b : ℕ) → 128 ≤ b → p b ≡ true) → (c < 128 → p c ≡ true) → list_all p (encode_utf8 c) ≡ true
unfolding lib.Utf8.encode
encode-all p c high low =
    by_width (ltb c 128) (ltb c 2048) (ltb c 65536) (λ is. low (grind (arith, nat_tests)))
  where
    by_width : (one two three : Bool) → (one ≡ true → p c ≡ true) → list_all p (cond one (c ∷ []) (cond two ((192 + c / 64) ∷ (128 + c % 64) ∷ []) (cond three ((224 + c / 4096) ∷ (128 + (c / 64) % 64) ∷ (128 + c % 64) ∷ []) ((240 + c / 262144) ∷ (128 + (c / 4096) % 64) ∷ (128 + (c / 64) % 64) ∷ (128 + c % 64) ∷ [])))) ≡ true
    by_width true two three here = rw (here refl) refl
    by_width false true three here = rw (high (192 + c / 64) (omega arith), high (128 + c % 64) (omega arith)) refl
    by_width false false true here =
        rw (high (224 + c / 4096) (omega arith), high (128 + (c / 64) % 64) (omega arith), high (128 + c % 64) (omega arith)) refl
    by_width false false false here =
        rw (high (240 + c / 262144) (omega arith), high (128 + (c / 4096) % 64) (omega arith), high (128 + (c / 64) % 64) (omega arith), high (128 + c % 64) (omega arith)) refl

high-field : (b : ℕ) → 128 ≤ b → is_field_byte b ≡ true
high-field b high = grind (arith, nat_tests)

low-field : (c : ℕ) → c ≢ 9 → c ≢ 10 → is_field_byte c ≡ true
low-field c no_tab no_feed = rw (ne_eqb c 9 no_tab, ne_eqb c 10 no_feed) refl

name-text : (name : List ℕ) → AllByRecursion IsFieldCharacter name → IsFieldText (encode_utf8_all name)
name-text [] all = record { utf8 = IsUtf8-nil; bytes = refl }
name-text (c ∷ name) all =
    let rest = name-text name all.1 in
    record {
      utf8 = IsUtf8-append (encode_utf8 c) (encode_utf8_all name) (IsUtf8-encode c all.0.is) rest.utf8;
      bytes = list_all-append is_field_byte (encode_utf8 c) (encode_utf8_all name) ∙ and_from _ _ (encode-all is_field_byte c high-field (λ low. low-field c all.0.no_tab all.0.no_feed)) rest.bytes;
    }

pub IsFieldText-name : (name : List ℕ) → IsFieldName name → IsFieldText (encode_utf8_all name)
IsFieldText-name name all = name-text name (recursion_from_All IsFieldCharacter name all)

last-encode : (x c : ℕ) → c ≢ 13 → (last_of x (encode_utf8 c ++ []) == 13) ≡ false
unfolding lib.Utf8.encode
last-encode x c other =
    by_width (ltb c 128) (ltb c 2048) (ltb c 65536)
  where
    by_width : (one two three : Bool) → (last_of x (cond one (c ∷ []) (cond two ((192 + c / 64) ∷ (128 + c % 64) ∷ []) (cond three ((224 + c / 4096) ∷ (128 + (c / 64) % 64) ∷ (128 + c % 64) ∷ []) ((240 + c / 262144) ∷ (128 + (c / 4096) % 64) ∷ (128 + (c / 64) % 64) ∷ (128 + c % 64) ∷ []))) ++ []) == 13) ≡ false
    by_width true two three = ne_eqb c 13 other
    by_width false true three = ne_eqb (128 + c % 64) 13 (λ e. omega (arith, e))
    by_width false false true = ne_eqb (128 + c % 64) 13 (λ e. omega (arith, e))
    by_width false false false = ne_eqb (128 + c % 64) 13 (λ e. omega (arith, e))

last-some : (x c : ℕ) (name : List ℕ) → EndsInNoReturn (c ∷ name) → (last_of x (encode_utf8_all (c ∷ name)) == 13) ≡ false
last-some x c [] ends = last-encode x c (λ is. ends [] (ap (λ d. d ∷ []) is))
last-some x c (d ∷ name) ends =
    ap (λ last. last == 13) (last_of-join x (encode_utf8 c) (encode_utf8_all (d ∷ name)))
    ∙ last-some (last_of x (encode_utf8 c)) d name (λ front is. ends (c ∷ front) (ap (λ rest. c ∷ rest) is))

-- the last byte of a line that ends with a name
pub last-name : (name : List ℕ) → EndsInNoReturn name → (last_of 9 (encode_utf8_all name) == 13) ≡ false
last-name [] ends = refl
last-name (c ∷ name) ends = last-some 9 c name ends

-- ---- Numbers of names

other-name : (name other : List ℕ) → name ≢ other → bytes_eq (encode_utf8_all name) (encode_utf8_all other) ≡ false
other-name name other apart =
    false_from_ne_true _ (λ is. apart (encodes_same name other ((bytes_eq-Decides (encode_utf8_all name) (encode_utf8_all other)).0 is)))

number_from-place : (names : List (List ℕ)) (number i : ℕ) → i < length names → AreApart names → number_from number names (encode_utf8_all (slice_index_or names i [])) ≡ Some (number + i)
number_from-place [] number i inside apart = absurd (omega arith)
number_from-place (name ∷ names) number zero inside apart =
    cond-true (bytes_eq (encode_utf8_all name) (encode_utf8_all name)) (Some number) _ ((bytes_eq-Decides (encode_utf8_all name) (encode_utf8_all name)).1 refl) ∙ ap Some (let e : number ≡ number + 0 = omega arith in e)
number_from-place (name ∷ names) number (suc i) inside apart =
    cond-false (bytes_eq (encode_utf8_all name) (encode_utf8_all (slice_index_or names i []))) (Some number) _ (other-name name (slice_index_or names i []) (apart 0 (suc i) (omega arith) inside))
    ∙ number_from-place names (number + 1) i (omega arith) (λ j k less within. apart (suc j) (suc k) (omega arith) (omega arith))
    ∙ ap Some (let e : (number + 1) + i ≡ number + suc i = omega arith in e)

-- the name of a number has this number
pub number_of_name-name_of : (names : List (List ℕ)) (number : ℕ) → IsOneOf names number → AreApart names → number_of_name names (encode_utf8_all (name_of names number)) ≡ Some number
number_of_name-name_of names number is apart =
    number_from-place names 1 (number - 1) (omega (arith, is.first, is.last)) apart ∙ ap Some (let e : 1 + (number - 1) ≡ number = omega (arith, is.first) in e)

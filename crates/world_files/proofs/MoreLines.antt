-- A certificate's text reads as the certificate too where more text follows.
use Rattle.std.proofs.Common.{◌≡◌, refl, sym, ap, ◌∙◌, subst, ℕ, zero, suc, ◌+◌, ◌-◌, ◌<◌, ◌==◌, Bool, true, false, List, [], ◌∷◌, ◌++◌, map, take, length, slice_index, Option, Some, None, Result, Ok, Err, arith, append_assoc, append-nil, length-append, if◌then◌else◌}
use Rattle.std.specs.Prelude.{ℤ, codes, option_and_then, slice_get}
use Rattle.std.specs.Fmt.{decimal, signed_decimal}
use Rattle.std.specs.List.{flat_map, onto_first, slice_split}
use Rattle.std.specs.Str.Lines.{strip_carriage_return}
use Rattle.std.proofs.Math.Seq.{take-append-add}
use Rattle.std.proofs.lemmas.Bool.{cond-false, ne_eqb}
use Rattle.std.proofs.lemmas.List.{get_or-append-add, map-append}
use Rattle.std.proofs.lemmas.List.Splits.{length-slice_split, slice_split-cons_no, slice_split-cons_yes}
use Rattle.mz_base.specs.Answers.{◌>>=◌}
use Rattle.mz_base.specs.Lines.{lines_in, lines_of, text_line, without_last_feed, without_mark}
use Rattle.mz_base.specs.declared.lattice.Certificate.{Certificate}
use Rattle.cert_text.specs.Fields.{after_word, bounds_of, ordinal_of, potential_of, total_of, values_of}
use Rattle.cert_text.specs.Readings.{certificate_of, fields_in, line_at, or_line}
use Rattle.cert_text.specs.Texts.{certificate_text, line_text, tabbed}

-- ---- Lines before a line feed, and lines after it

onto_first-append : (x : ℕ) (parts more : List (List ℕ)) → 0 < length parts → onto_first x (parts ++ more) ≡ onto_first x parts ++ more
onto_first-append x [] more some = absurd (omega (arith, some))
onto_first-append x (part ∷ parts) more some = refl

split-seam : (p : ℕ → Bool) (xs : List ℕ) (y : ℕ) (ys : List ℕ) → p y ≡ true → slice_split p (xs ++ y ∷ ys) ≡ slice_split p xs ++ slice_split p ys
split-seam p [] y ys is = slice_split-cons_yes p y ys is
split-seam p (x ∷ xs) y ys is = by_test (p x) refl (split-seam p xs y ys is)
  where
    by_test : (b : Bool) → p x ≡ b → slice_split p (xs ++ y ∷ ys) ≡ slice_split p xs ++ slice_split p ys → slice_split p (x ∷ xs ++ y ∷ ys) ≡ slice_split p (x ∷ xs) ++ slice_split p ys
    by_test true passes rest =
        slice_split-cons_yes p x (xs ++ y ∷ ys) passes
        ∙ ap (λ parts. [] ∷ parts) rest
        ∙ sym (ap (λ parts. parts ++ slice_split p ys) (slice_split-cons_yes p x xs passes))
    by_test false fails rest =
        slice_split-cons_no p x (xs ++ y ∷ ys) fails
        ∙ ap (onto_first x) rest
        ∙ onto_first-append x (slice_split p xs) (slice_split p ys) (omega (arith, length-slice_split p xs))
        ∙ sym (ap (λ parts. parts ++ slice_split p ys) (slice_split-cons_no p x xs fails))

before_both : (b : Bool) (front x y : List ℕ) → (if b then front ++ x else front ++ y) ≡ front ++ (if b then x else y)
before_both true front x y = refl
before_both false front x y = refl

last_feed-seam : (front more : List ℕ) → 0 < length more → without_last_feed (front ++ more) ≡ front ++ without_last_feed more
last_feed-seam front more some =
    let k = length more - 1 in
    let place : length (front ++ more) - 1 ≡ length front + k = omega (arith, length-append front more, some) in
    ap (λ n. if slice_index (front ++ more) n == 10 then take n (front ++ more) else front ++ more) place
    ∙ ap (λ c. if c == 10 then take (length front + k) (front ++ more) else front ++ more) (get_or-append-add front more k 0)
    ∙ ap (λ text. if slice_index more k == 10 then text else front ++ more) (take-append-add front more k)
    ∙ before_both (slice_index more k == 10) front (take k more) more

abbrev is_feed : ℕ → Bool
is_feed b = b == 10

lines_in-ended : (front : List ℕ) → lines_in (front ++ 10 ∷ []) ≡ map strip_carriage_return (slice_split is_feed front)
unfolding lines_in
lines_in-ended front =
    ap (λ text. map strip_carriage_return (slice_split is_feed text)) (last_feed-seam front (10 ∷ []) (omega arith) ∙ append-nil front)

lines_in-more : (front more : List ℕ) → 0 < length more → lines_in ((front ++ 10 ∷ []) ++ more) ≡ lines_in (front ++ 10 ∷ []) ++ map strip_carriage_return (slice_split is_feed (without_last_feed more))
unfolding lines_in
lines_in-more front more some =
    let rest = without_last_feed more in
    ap (λ text. map strip_carriage_return (slice_split is_feed text)) (last_feed-seam (front ++ 10 ∷ []) more some ∙ append_assoc front (10 ∷ []) rest)
    ∙ ap (map strip_carriage_return) (split-seam is_feed front 10 rest refl)
    ∙ map-append strip_carriage_return (slice_split is_feed front) (slice_split is_feed rest)
    ∙ sym (ap (λ lines. lines ++ map strip_carriage_return (slice_split is_feed rest)) (lines_in-ended front))

-- a text that begins so has no byte order mark, and a line
lines_of-bounds : (rest : List ℕ) → lines_of (codes "bounds" ++ rest) ≡ lines_in (codes "bounds" ++ rest)
unfolding lines_of
lines_of-bounds rest =
    let text : List ℕ = codes "bounds" ++ rest in
    let unmarked : without_mark text ≡ text = refl in
    let some : 0 < length text = omega arith in
    ap (λ left. if length left == 0 then [] else lines_in left) unmarked ∙ cond-false (length text == 0) [] (lines_in text) (ne_eqb (length text) 0 (λ none. omega (arith, some, none)))

-- ---- What a line reads as

slice_get-front : (lines more : List (List ℕ)) (place : ℕ) (line : List ℕ) → slice_get lines place ≡ Some line → slice_get (lines ++ more) place ≡ Some line
slice_get-front [] more place line is = let never : None ≡ Some line = is in absurd cc
slice_get-front (first ∷ lines) more zero line is = is
slice_get-front (first ∷ lines) more (suc place) line is = slice_get-front lines more place line is

module _ {A : Type 0} (lines more : List (List ℕ)) (place : ℕ) (word : List ℕ) (read : List (List ℕ) → Option A) where
  abbrev read_as : Option (List ℕ) → Result A ℕ
  read_as found =
      or_line (place + 1) (option_and_then read (after_word word (fields_in (option_and_then text_line found))))

  line_at-more : (value : A) → line_at lines place word read ≡ Ok value → line_at (lines ++ more) place word read ≡ Ok value
  line_at-more value is = by_line (slice_get lines place) refl
    where
      by_line : (found : Option (List ℕ)) → slice_get lines place ≡ found → line_at (lines ++ more) place word read ≡ Ok value
      by_line None none = let never : Err (place + 1) ≡ Ok value = sym (ap read_as none) ∙ is in absurd cc
      by_line (Some line) some =
          ap read_as (slice_get-front lines more place line some) ∙ sym (ap read_as some) ∙ is

bind-more : {A B : Type 0} (one other : Result A ℕ) (next later : A → Result B ℕ) (value : B) → ((v : A) → one ≡ Ok v → other ≡ Ok v) → ((v : A) → next v ≡ Ok value → later v ≡ Ok value) → (one >>= next) ≡ Ok value → (other >>= later) ≡ Ok value
bind-more (Ok v) other next later value same goes is =
    ap (λ r. r >>= later) (same v refl) ∙ goes v is
bind-more (Err n) other next later value same goes is = let never : Err n ≡ Ok value = is in absurd cc

certificate_of-more : (key_length : ℕ) (lines more : List (List ℕ)) (c : Certificate) → certificate_of key_length lines ≡ Ok c → certificate_of key_length (lines ++ more) ≡ Ok c
unfolding certificate_of
certificate_of-more key_length lines more c is =
    bind-more _ _ _ _ c (line_at-more lines more 0 (codes "bounds") (bounds_of key_length)) (λ bounds. bind-more _ _ _ _ c (line_at-more lines more 1 (codes "path") (values_of ordinal_of)) (λ path. bind-more _ _ _ _ c (line_at-more lines more 2 (codes "potentials") (values_of potential_of)) (λ potentials. bind-more _ _ _ _ c (line_at-more lines more 3 (codes "total") total_of) (λ total same. same)))) is

-- ---- A certificate's text, and more

module _ (c : Certificate) where
  abbrev but_last_feed : List ℕ
  but_last_feed =
      line_text (codes "bounds") (map decimal c.bounds)
      ++ (line_text (codes "path") (map decimal c.path)
      ++ (line_text (codes "potentials") (map signed_decimal c.potentials)
      ++ (codes "total" ++ flat_map tabbed (signed_decimal c.total ∷ []))))

  ended : certificate_text c ≡ but_last_feed ++ 10 ∷ []
  ended = simp append_assoc

  abbrev but_word : List ℕ
  but_word =
      (flat_map tabbed (map decimal c.bounds) ++ codes "\n")
      ++ (line_text (codes "path") (map decimal c.path)
      ++ (line_text (codes "potentials") (map signed_decimal c.potentials)
      ++ line_text (codes "total") (signed_decimal c.total ∷ [])))

  lines_of-more : (b : ℕ) (more : List ℕ) → lines_of (certificate_text c ++ b ∷ more) ≡ lines_of (certificate_text c) ++ map strip_carriage_return (slice_split is_feed (without_last_feed (b ∷ more)))
  lines_of-more b more =
      let added = map strip_carriage_return (slice_split is_feed (without_last_feed (b ∷ more))) in
      lines_of-bounds (but_word ++ b ∷ more)
      ∙ ap (λ text. lines_in (text ++ b ∷ more)) ended
      ∙ lines_in-more but_last_feed (b ∷ more) (omega arith)
      ∙ sym (ap (λ text. lines_in text ++ added) ended)
      ∙ sym (ap (λ lines. lines ++ added) (lines_of-bounds but_word))

  pub certificate_text-read_on : (key_length : ℕ) (more : List ℕ) → certificate_of key_length (lines_of (certificate_text c)) ≡ Ok c → certificate_of key_length (lines_of (certificate_text c ++ more)) ≡ Ok c
  certificate_text-read_on key_length [] is =
      ap (λ text. certificate_of key_length (lines_of text)) (append-nil (certificate_text c)) ∙ is
  certificate_text-read_on key_length (b ∷ more) is =
      ap (certificate_of key_length) (lines_of-more b more) ∙ certificate_of-more key_length (lines_of (certificate_text c)) _ c is

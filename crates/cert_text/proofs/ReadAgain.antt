-- The text of a certificate reads as the certificate.
use Rattle.std.proofs.Common.{◌≡◌, ℕ, ◌+◌, ◌<◌, ◌≤◌, ◌^◌, ℤ, pos, negsuc, suc, true, List, [], ◌∷◌, ◌++◌, Option, Some, None, Result, Ok, option_and_then, map, length, get_or, codes, if◌then◌else◌, ◌==◌, bytes_eq, slice_get, refl, sym, ap, ◌∙◌, arith, append_assoc}
use Rattle.std.specs.Char.{is_ascii_digit}
use Rattle.std.specs.Fmt.{decimal, signed_decimal}
use Rattle.std.specs.List.{list_all, flat_map, AllByRecursion}
use Rattle.std.specs.Str.{is_utf8}
use Rattle.std.proofs.lemmas.Bool.{cond-true, cond-false, ne_eqb}
use Rattle.std.proofs.lemmas.Bool.Decides.{nat_tests}
use Rattle.std.proofs.lemmas.List.Elements.{recursion_from_All}
use Rattle.std.proofs.lemmas.List.Sums.{AllPass-from_list_all, list_all-from_AllPass}
use Rattle.mz_base.specs.Answers.{◌>>=◌}
use Rattle.mz_base.specs.Lines.{text_line, without_mark, lines_in, lines_of}
use Rattle.mz_base.specs.Numbers.{number_of}
use Rattle.mz_base.specs.declared.lattice.Certificate.{Certificate}
use Rattle.mz_base.specs.declared.lattice.TheConstants.{MOST_KEY}
use Rattle.cert_text.specs.Fields.{after_word, values_of, only_if, ordinal_of, potential_of, total_of, rises, bounds_of}
use Rattle.cert_text.specs.Readings.{fields_in, or_line, line_at, certificate_of}
use Rattle.cert_text.specs.Texts.{tabbed, line_text, certificate_text}
use Rattle.cert_text.specs.Written.{IsShort, CanBeWritten}
use Rattle.cert_text.proofs.LineTexts.{is_plain, fields_of-line, line-in_line, in_line-utf8, before_feed, lines_in-four}
use Rattle.cert_text.proofs.NumberTexts.{digits-decimal, number_of-decimal, ordinal_of-decimal, potential_of-signed, values_of-texts}
use Rattle.cert_text.proofs.RiseLemmas.{rises-from_RiseWithin}

digit-plain : (b : ℕ) → is_ascii_digit b ≡ true → is_plain b ≡ true
digit-plain b is = grind (arith, nat_tests)

digits-plain : (text : List ℕ) → list_all is_ascii_digit text ≡ true → list_all is_plain text ≡ true
digits-plain text is =
    list_all-from_AllPass is_plain text (λ k d inside. digit-plain (get_or text k d) (AllPass-from_list_all is_ascii_digit text is k d inside))

decimal-plain : (n : ℕ) → n < 2 ^ 64 → list_all is_plain (decimal n) ≡ true
decimal-plain n fits = digits-plain (decimal n) (digits-decimal n fits)

signed-plain : (n : ℤ) → IsShort n → list_all is_plain (signed_decimal n) ≡ true
signed-plain (pos n) short = decimal-plain n (omega arith)
signed-plain (negsuc n) short = decimal-plain (suc n) (omega arith)

-- each field is written in plain bytes, and reads as its value
each-plain : {A : Type 0} (text_of : A → List ℕ) (values : List A) → AllByRecursion (λ value. list_all is_plain (text_of value) ≡ true) values → AllByRecursion (λ field. list_all is_plain field ≡ true) (map text_of values)
each-plain text_of [] each = tt
each-plain text_of (value ∷ values) each = (each.0, each-plain text_of values each.1)

-- a line that is joined from a word and its fields
abbrev joined : List ℕ → List (List ℕ) → List ℕ
joined word fields = word ++ flat_map tabbed fields

module _ {A : Type 0} (lines : List (List ℕ)) (place : ℕ) (word : List ℕ) (fields : List (List ℕ)) (read : List (List ℕ) → Option A) where
  -- the line at the place reads as its fields do
  line_at-joined : slice_get lines place ≡ Some (joined word fields) → list_all is_plain word ≡ true → bytes_eq word word ≡ true → AllByRecursion (λ field. list_all is_plain field ≡ true) fields → line_at lines place word read ≡ or_line (place + 1) (read fields)
  line_at-joined stands plain same each =
      let line = joined word fields in
      ap (λ found. or_line (place + 1) (option_and_then read (after_word word (fields_in (option_and_then text_line found))))) stands
      ∙ ap (λ text. or_line (place + 1) (option_and_then read (after_word word (fields_in text)))) (cond-true (is_utf8 line) (Some line) None (in_line-utf8 line (line-in_line word fields plain each)))
      ∙ ap (λ found. or_line (place + 1) (option_and_then read (after_word word found))) (fields_of-line word fields plain each)
      ∙ ap (λ found. or_line (place + 1) (option_and_then read found)) (cond-true (bytes_eq word word) (Some fields) None same)

line-before : (word fields rest : List ℕ) → (word ++ (fields ++ 10 ∷ [])) ++ rest ≡ before_feed (word ++ fields) rest
line-before word fields rest = simp append_assoc

lines_of-bounds : (fields rest : List ℕ) → lines_of (before_feed (codes "bounds" ++ fields) rest) ≡ lines_in (before_feed (codes "bounds" ++ fields) rest)
unfolding lines_of
lines_of-bounds fields rest =
    let text : List ℕ = before_feed (codes "bounds" ++ fields) rest in
    let unmarked : without_mark text ≡ text = refl in
    let some : 0 < length text = omega arith in
    ap (λ left. if length left == 0 then [] else lines_in left) unmarked ∙ cond-false (length text == 0) [] (lines_in text) (ne_eqb (length text) 0 (λ none. omega (arith, some, none)))

module _ (a b c d : List (List ℕ)) (is_a : AllByRecursion (λ field. list_all is_plain field ≡ true) a) (is_b : AllByRecursion (λ field. list_all is_plain field ≡ true) b) (is_c : AllByRecursion (λ field. list_all is_plain field ≡ true) c) (is_d : AllByRecursion (λ field. list_all is_plain field ≡ true) d) where
  abbrev four_lines : List (List ℕ)
  four_lines =
      joined (codes "bounds") a ∷ joined (codes "path") b ∷ joined (codes "potentials") c ∷ joined (codes "total") d ∷ []

  lines_of-four : lines_of (line_text (codes "bounds") a ++ (line_text (codes "path") b ++ (line_text (codes "potentials") c ++ line_text (codes "total") d))) ≡ four_lines
  lines_of-four =
      let last : line_text (codes "total") d ≡ before_feed (joined (codes "total") d) [] = sym (append_assoc (codes "total") (flat_map tabbed d) (10 ∷ [])) in
      let third : line_text (codes "potentials") c ++ line_text (codes "total") d ≡ before_feed (joined (codes "potentials") c) (before_feed (joined (codes "total") d) []) = line-before (codes "potentials") (flat_map tabbed c) _ ∙ ap (before_feed (joined (codes "potentials") c)) last in
      let second = line-before (codes "path") (flat_map tabbed b) (line_text (codes "potentials") c ++ line_text (codes "total") d) ∙ ap (before_feed (joined (codes "path") b)) third in
      let first = line-before (codes "bounds") (flat_map tabbed a) (line_text (codes "path") b ++ (line_text (codes "potentials") c ++ line_text (codes "total") d)) ∙ ap (before_feed (joined (codes "bounds") a)) second in
      ap lines_of first
      ∙ lines_of-bounds (flat_map tabbed a) _
      ∙ lines_in-four (joined (codes "bounds") a) (joined (codes "path") b) (joined (codes "potentials") c) (joined (codes "total") d) (line-in_line (codes "bounds") a refl is_a) (line-in_line (codes "path") b refl is_b) (line-in_line (codes "potentials") c refl is_c) (line-in_line (codes "total") d refl is_d)

bind-ok : {A B E : Type 0} (answer : Result A E) (value : A) (next : A → Result B E) → answer ≡ Ok value → (answer >>= next) ≡ next value
bind-ok answer value next is = ap (λ given. given >>= next) is

module _ (key_length : ℕ) (certificate : Certificate) (short : key_length ≤ MOST_KEY) (can : CanBeWritten key_length certificate) where
  abbrev bounds : List (List ℕ)
  bounds = map decimal certificate.bounds

  abbrev path : List (List ℕ)
  path = map decimal certificate.path

  abbrev potentials : List (List ℕ)
  potentials = map signed_decimal certificate.potentials

  abbrev total : List (List ℕ)
  total = signed_decimal certificate.total ∷ []

  plain_bounds : AllByRecursion (λ field. list_all is_plain field ≡ true) bounds
  plain_bounds =
      each-plain decimal certificate.bounds (recursion_from_All _ certificate.bounds (λ k d inside. decimal-plain _ (omega (arith, (can.bounds.inside k d inside).1))))

  plain_path : AllByRecursion (λ field. list_all is_plain field ≡ true) path
  plain_path =
      each-plain decimal certificate.path (recursion_from_All _ certificate.path (λ k d inside. decimal-plain _ (omega (arith, can.path k d inside))))

  plain_potentials : AllByRecursion (λ field. list_all is_plain field ≡ true) potentials
  plain_potentials =
      each-plain signed_decimal certificate.potentials (recursion_from_All _ certificate.potentials (λ k d inside. signed-plain _ (can.potentials k d inside)))

  plain_total : AllByRecursion (λ field. list_all is_plain field ≡ true) total
  plain_total = (signed-plain certificate.total can.total, tt)

  abbrev lines : List (List ℕ)
  lines = four_lines bounds path potentials total plain_bounds plain_path plain_potentials plain_total

  bounds-read : line_at lines 0 (codes "bounds") (bounds_of key_length) ≡ Ok certificate.bounds
  bounds-read =
      line_at-joined lines 0 (codes "bounds") bounds (bounds_of key_length) refl refl refl plain_bounds
      ∙ ap (λ found. or_line 1 (option_and_then (only_if (rises key_length 0)) found)) (values_of-texts number_of decimal certificate.bounds (recursion_from_All _ certificate.bounds (λ k d inside. number_of-decimal _ (omega (arith, (can.bounds.inside k d inside).1)))))
      ∙ ap (or_line 1) (cond-true (rises key_length 0 certificate.bounds) (Some certificate.bounds) None (rises-from_RiseWithin key_length certificate.bounds can.bounds))

  path-read : line_at lines 1 (codes "path") (values_of ordinal_of) ≡ Ok certificate.path
  path-read =
      line_at-joined lines 1 (codes "path") path (values_of ordinal_of) refl refl refl plain_path
      ∙ ap (or_line 2) (values_of-texts ordinal_of decimal certificate.path (recursion_from_All _ certificate.path (λ k d inside. ordinal_of-decimal _ (can.path k d inside))))

  potentials-read : line_at lines 2 (codes "potentials") (values_of potential_of) ≡ Ok certificate.potentials
  potentials-read =
      line_at-joined lines 2 (codes "potentials") potentials (values_of potential_of) refl refl refl plain_potentials
      ∙ ap (or_line 3) (values_of-texts potential_of signed_decimal certificate.potentials (recursion_from_All _ certificate.potentials (λ k d inside. potential_of-signed _ (can.potentials k d inside))))

  total-read : line_at lines 3 (codes "total") total_of ≡ Ok certificate.total
  total-read =
      line_at-joined lines 3 (codes "total") total total_of refl refl refl plain_total
      ∙ ap (or_line 4) (potential_of-signed certificate.total can.total)

  lines-read : certificate_of key_length lines ≡ Ok certificate
  unfolding certificate_of
  lines-read =
      bind-ok _ certificate.bounds _ bounds-read ∙ bind-ok _ certificate.path _ path-read ∙ bind-ok _ certificate.potentials _ potentials-read ∙ bind-ok _ certificate.total _ total-read

  pub certificate_text-read : certificate_of key_length (lines_of (certificate_text certificate)) ≡ Ok certificate
  certificate_text-read =
      ap (certificate_of key_length) (lines_of-four bounds path potentials total plain_bounds plain_path plain_potentials plain_total) ∙ lines-read

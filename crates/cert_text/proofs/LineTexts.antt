-- Lines of words and numbers are cut as they were joined.
use Rattle.std.proofs.Common.{◌≡◌, ℕ, ◌-◌, ◌<◌, Bool, true, false, ◌&&◌, ◌||◌, ◌==◌, List, [], ◌∷◌, ◌++◌, map, take, length, get_or, slice_index, nat_lt, if◌then◌else◌, refl, ap, ◌∙◌, arith, append_assoc, append-nil, length-append}
use Rattle.std.specs.List.{All, list_all, flat_map, slice_split, AllByRecursion}
use Rattle.std.specs.Str.{IsAscii, is_utf8}
use Rattle.std.specs.Str.Lines.{strip_carriage_return}
use Rattle.std.proofs.Math.Seq.{get_or-append_seam, take-append_seam}
use Rattle.std.proofs.lemmas.Bool.{false≢true, cond-true, cond-false, ne_eqb, eq-eqb, and_from}
use Rattle.std.proofs.lemmas.Bool.Decides.{nat_tests}
use Rattle.std.proofs.lemmas.List.Folds.{list_all-append}
use Rattle.std.proofs.lemmas.List.Splits.{slice_split_none, slice_split_at}
use Rattle.std.proofs.lemmas.List.Sums.{AllPass-from_list_all, list_all-from_AllPass}
use Rattle.std.proofs.lemmas.Str.{IsUtf8-from_ascii, is_utf8-from_IsUtf8}
use Rattle.std.proofs.lemmas.Str.Ascii.{IsAscii-cons}
use Rattle.mz_base.specs.Lines.{without_last_feed, lines_in, fields_of}
use Rattle.cert_text.specs.Texts.{tabbed}

-- a byte of a word or a number
abbrev pub is_plain : ℕ → Bool
is_plain b = nat_lt 13 b && nat_lt b 128

-- a byte of a line: such a byte, or a tab
abbrev pub is_in_line : ℕ → Bool
is_in_line b = (b == 9) || is_plain b

plain-no_tab : (b : ℕ) → is_plain b ≡ true → (b == 9) ≡ false
plain-no_tab b is = ne_eqb b 9 (λ e. grind (arith, nat_tests))

plain-in_line : (b : ℕ) → is_plain b ≡ true → is_in_line b ≡ true
plain-in_line b is = grind (arith, nat_tests)

in_line-no_feed : (b : ℕ) → is_in_line b ≡ true → (b == 10) ≡ false
in_line-no_feed b is = ne_eqb b 10 (λ e. grind (arith, nat_tests))

in_line-no_return : (b : ℕ) → is_in_line b ≡ true → (b == 13) ≡ false
in_line-no_return b is = ne_eqb b 13 (λ e. grind (arith, nat_tests))

in_line-ascii : (b : ℕ) → is_in_line b ≡ true → b < 128
in_line-ascii b is = grind (arith, nat_tests)

both : (x y : Bool) → (x && y) ≡ true → (x ≡ true) × (y ≡ true)
both true y is = (refl, is)
both false y is = absurd (false≢true is)

no_tab : (text : List ℕ) → list_all is_plain text ≡ true → All (λ b. (b == 9) ≡ false) text
no_tab text is = λ k d inside. plain-no_tab _ (AllPass-from_list_all is_plain text is k d inside)

pub fields_of-line : (word : List ℕ) (fields : List (List ℕ)) → list_all is_plain word ≡ true → AllByRecursion (λ field. list_all is_plain field ≡ true) fields → fields_of (word ++ flat_map tabbed fields) ≡ word ∷ fields
fields_of-line word [] plain each =
    ap fields_of (append-nil word) ∙ slice_split_none (λ b. b == 9) word (no_tab word plain)
fields_of-line word (field ∷ fields) plain each =
    slice_split_at (λ b. b == 9) word 9 (field ++ flat_map tabbed fields) (no_tab word plain) refl
    ∙ ap (λ rest. word ∷ rest) (fields_of-line field fields each.0 each.1)

plain-line : (word : List ℕ) → list_all is_plain word ≡ true → list_all is_in_line word ≡ true
plain-line word plain =
    list_all-from_AllPass is_in_line word (λ k d inside. plain-in_line (get_or word k d) (AllPass-from_list_all is_plain word plain k d inside))

pub line-in_line : (word : List ℕ) (fields : List (List ℕ)) → list_all is_plain word ≡ true → AllByRecursion (λ field. list_all is_plain field ≡ true) fields → list_all is_in_line (word ++ flat_map tabbed fields) ≡ true
line-in_line word [] plain each =
    ap (list_all is_in_line) (append-nil word) ∙ plain-line word plain
line-in_line word (field ∷ fields) plain each =
    list_all-append is_in_line word (flat_map tabbed (field ∷ fields)) ∙ and_from _ _ (plain-line word plain) (line-in_line field fields each.0 each.1)

list_all-ascii : (line : List ℕ) → list_all is_in_line line ≡ true → IsAscii line
list_all-ascii [] is = λ i. omega arith
list_all-ascii (b ∷ line) is =
    let parts = both (is_in_line b) (list_all is_in_line line) is in
    IsAscii-cons b line (in_line-ascii b parts.0) (list_all-ascii line parts.1)

pub in_line-utf8 : (line : List ℕ) → list_all is_in_line line ≡ true → is_utf8 line ≡ true
in_line-utf8 line is = is_utf8-from_IsUtf8 line (IsUtf8-from_ascii line (list_all-ascii line is))

last-no_return : (line : List ℕ) → list_all is_in_line line ≡ true → strip_carriage_return line ≡ line
last-no_return [] is = refl
last-no_return (b ∷ line) is =
    cond-false (slice_index (b ∷ line) (length (b ∷ line) - 1) == 13) _ _ (in_line-no_return _ (AllPass-from_list_all is_in_line (b ∷ line) is (length (b ∷ line) - 1) 0 (omega arith)))

no_feed : (line : List ℕ) → list_all is_in_line line ≡ true → All (λ b. (b == 10) ≡ false) line
no_feed line is = λ k d inside. in_line-no_feed _ (AllPass-from_list_all is_in_line line is k d inside)

last_feed-dropped : (front : List ℕ) → without_last_feed (front ++ 10 ∷ []) ≡ front
last_feed-dropped front =
    let place : length (front ++ 10 ∷ []) - 1 ≡ length front = omega (arith, length-append front (10 ∷ [])) in
    let last : slice_index (front ++ 10 ∷ []) (length front) ≡ 10 = get_or-append_seam front 10 [] 0 in
    ap (λ n. if slice_index (front ++ 10 ∷ []) n == 10 then take n (front ++ 10 ∷ []) else front ++ 10 ∷ []) place
    ∙ cond-true (slice_index (front ++ 10 ∷ []) (length front) == 10) _ _ (eq-eqb _ 10 last)
    ∙ take-append_seam front (10 ∷ [])

-- a line, and what follows it
abbrev pub before_feed : List ℕ → List ℕ → List ℕ
before_feed line rest = line ++ 10 ∷ rest

module _ (a b c d : List ℕ) (is_a : list_all is_in_line a ≡ true) (is_b : list_all is_in_line b ≡ true) (is_c : list_all is_in_line c ≡ true) (is_d : list_all is_in_line d ≡ true) where
  four_parts : slice_split (λ byte. byte == 10) (before_feed a (before_feed b (before_feed c d))) ≡ a ∷ b ∷ c ∷ d ∷ []
  four_parts =
      slice_split_at (λ byte. byte == 10) a 10 (before_feed b (before_feed c d)) (no_feed a is_a) refl
      ∙ ap (λ rest. a ∷ rest) (slice_split_at (λ byte. byte == 10) b 10 (before_feed c d) (no_feed b is_b) refl)
      ∙ ap (λ rest. a ∷ b ∷ rest) (slice_split_at (λ byte. byte == 10) c 10 d (no_feed c is_c) refl)
      ∙ ap (λ rest. a ∷ b ∷ c ∷ rest) (slice_split_none (λ byte. byte == 10) d (no_feed d is_d))

  -- four lines are cut as they were joined
  pub lines_in-four : lines_in (before_feed a (before_feed b (before_feed c (before_feed d [])))) ≡ a ∷ b ∷ c ∷ d ∷ []
  unfolding lines_in
  lines_in-four =
      let joined : before_feed a (before_feed b (before_feed c (before_feed d []))) ≡ before_feed a (before_feed b (before_feed c d)) ++ 10 ∷ [] = simp append_assoc in
      let last : without_last_feed (before_feed a (before_feed b (before_feed c (before_feed d [])))) ≡ before_feed a (before_feed b (before_feed c d)) = ap without_last_feed joined ∙ last_feed-dropped (before_feed a (before_feed b (before_feed c d))) in
      ap (λ text. map strip_carriage_return (slice_split (λ byte. byte == 10) text)) last
      ∙ ap (map strip_carriage_return) four_parts
      ∙ rw (last-no_return a is_a, last-no_return b is_b, last-no_return c is_c, last-no_return d is_d) refl

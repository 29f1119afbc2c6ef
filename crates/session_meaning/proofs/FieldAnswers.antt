-- What is shown of answers and of suggestions has no tab and no line feed, where the data have none.
use Rattle.std.proofs.Common.{refl, subst, inl, inr, ℕ, ◌-◌, ◌/◌, ◌%◌, Bool, true, false, List, [], ◌∷◌, ◌++◌, map, take, drop, Option, Some, None, if◌then◌else◌, get_or, ◌==◌, arith}
use Rattle.std.specs.Prelude.{not, filter, slice_range}
use Rattle.std.specs.List.{list_any}
use Rattle.mz_base.specs.Data.{DataLists, costs_less, is_text, kanji_rows, no_word, priced, readings, rows_with_prefix, single_kanji, values_of, word_at}
use Rattle.mz_base.specs.Folds.{full_width, half_width, katakana}
use Rattle.mz_base.specs.Ordered.{in_order}
use Rattle.mz_base.specs.Users.{no_user_row}
use Rattle.mz_base.specs.declared.conversion.Segment.{Segment}
use Rattle.mz_base.specs.declared.data.ValueRow.{ValueRow}
use Rattle.mz_base.specs.declared.data.WordRow.{WordRow}
use Rattle.mz_base.specs.declared.lattice.Candidate.{Candidate}
use Rattle.mz_base.specs.declared.lattice.Entry.{Entry}
use Rattle.mz_base.specs.declared.lattice.Pair.{Pair}
use Rattle.mz_base.specs.declared.lattice.Source.{Source}
use Rattle.mz_base.specs.declared.lattice.Source.TheVariants.{User, Word, Char, Run}
use Rattle.mz_base.specs.declared.lattice.Span.{Span}
use Rattle.mz_base.specs.declared.user.UserRow.{UserRow}
use Rattle.conversion_meaning.specs.Answers.{answer, first_answer, segment_of}
use Rattle.conversion_meaning.specs.Candidates.{candidate_of, first_of_each, first_values}
use Rattle.conversion_meaning.specs.Entries.{entries}
use Rattle.conversion_meaning.specs.Firsts.{firsts}
use Rattle.conversion_meaning.specs.InOrder.{paths_in_order}
use Rattle.conversion_meaning.specs.Lattices.{entry}
use Rattle.conversion_meaning.specs.Rules.{Asked, chosen_before, digit_with, group_with, is_half, is_number, is_value, kana_values, kanji_digit, kanji_digits, last_digit, number_of, number_values, put_first, rewritten, rewritten_by, spelled, spelled_group, units_of, values_by, wide_values, with_value, with_values}
use Rattle.conversion_meaning.specs.Segments.{cut, span_between}
use Rattle.conversion_meaning.specs.Suggestions.{means_other, offered, recalled, suggestions, word_pair}
use Rattle.conversion_meaning.specs.Values.{value_from, value_of}
use Rattle.conversion_meaning.specs.declared.candidates.TheConstants.{MOST_PATHS, MOST_VALUES}
use Rattle.conversion_meaning.specs.declared.rules.TheConstants.{KANJI_DIGITS}
use Rattle.conversion_meaning.specs.declared.suggestions.TheConstants.{MOST_SUGGESTIONS}
use Rattle.conversion_meaning.proofs.CandidateLemmas.{from_first_of_each}
use Rattle.conversion_meaning.proofs.CutLemmas.{from_all}
use Rattle.conversion_meaning.proofs.Lists.{Among, Among-append_cases, from_filter, from_flat_map, from_map}
use Rattle.session_meaning.specs.Fields.{AreListsFields, ArePinnedFields, IsField, IsFieldCharacter}
use Rattle.session_meaning.specs.Stages.{Pinned}
use Rattle.session_meaning.proofs.FieldTexts.{Plain, Plain-append, Plain-cons, Plain-drop, Plain-flat_map, Plain-from_field, Plain-full_width, Plain-half_width, Plain-katakana, Plain-none, Plain-take, Plain-tested, PlainTexts, from_take, read-holds}

-- ---- Candidates

abbrev pub PlainValues : List Candidate → Type 0
PlainValues list = (candidate : Candidate) → Among candidate list → Plain candidate.value

abbrev added : List ℕ → Candidate
added value = record { value = value; cost = None }

PlainValues-append : (xs ys : List Candidate) → PlainValues xs → PlainValues ys → PlainValues (xs ++ ys)
PlainValues-append xs ys one other candidate h =
    elim (Among-append_cases candidate xs ys h) [ inl a ↦ one candidate a | inr b ↦ other candidate b ]

PlainValues-with_value : (list : List Candidate) (value : List ℕ) → PlainValues list → Plain value → PlainValues (with_value list value)
PlainValues-with_value list value are plain = by_test (list_any (is_value value) list)
  where
    one : PlainValues (added value ∷ [])
    one candidate (inl same) = subst (λ (x : Candidate). Plain x.value) same plain
    one candidate (inr none) = absurd none

    by_test : (b : Bool) → PlainValues (if b then list else list ++ added value ∷ [])
    by_test true = are
    by_test false = PlainValues-append list (added value ∷ []) are one

PlainValues-with_values : (values : List (List ℕ)) (list : List Candidate) → PlainValues list → PlainTexts values → PlainValues (with_values list values)
PlainValues-with_values [] list are plain = are
PlainValues-with_values (value ∷ values) list are plain =
    PlainValues-with_values values (with_value list value) (PlainValues-with_value list value are (plain value (inl refl))) (λ text h. plain text (inr h))

PlainValues-put_first : (found : Option Pair) (list : List Candidate) → PlainValues list → PlainValues (put_first found list)
PlainValues-put_first None list are = are
PlainValues-put_first (Some pair) list are =
    PlainValues-append (filter (is_value pair.value) list) (filter (λ candidate. not (is_value pair.value candidate)) list) (λ candidate h. are candidate (from_filter (is_value pair.value) candidate list h).0) (λ candidate h. are candidate (from_filter (λ other. not (is_value pair.value other)) candidate list h).0)

-- ---- What the rules add

PlainTexts-none : PlainTexts []
PlainTexts-none text h = absurd h

PlainTexts-cons : (text : List ℕ) (texts : List (List ℕ)) → Plain text → PlainTexts texts → PlainTexts (text ∷ texts)
PlainTexts-cons text texts one more other (inl same) = subst Plain same one
PlainTexts-cons text texts one more other (inr h) = more other h

PlainTexts-kana : (key : List ℕ) → Plain key → PlainTexts (kana_values key)
PlainTexts-kana key plain =
    let wide = Plain-katakana key plain in
    PlainTexts-cons key (katakana key ∷ half_width (katakana key) ∷ []) plain (PlainTexts-cons (katakana key) (half_width (katakana key) ∷ []) wide (PlainTexts-cons (half_width (katakana key)) [] (Plain-half_width (katakana key) wide) PlainTexts-none))

Plain-kanji_numbers : Plain KANJI_DIGITS
Plain-kanji_numbers = Plain-tested KANJI_DIGITS refl

field-kanji_digit : (digit : ℕ) → IsFieldCharacter (kanji_digit digit)
field-kanji_digit digit =
    read-holds IsFieldCharacter KANJI_DIGITS digit 0 Plain-kanji_numbers (omega arith, omega arith)

Plain-kanji_digits : (key : List ℕ) → Plain (kanji_digits key)
Plain-kanji_digits [] = Plain-none
Plain-kanji_digits (c ∷ key) =
    Plain-cons (kanji_digit (c - 0x30)) (kanji_digits key) (field-kanji_digit (c - 0x30)) (Plain-kanji_digits key)

Plain-digit_with : (unit digit : ℕ) → IsFieldCharacter unit → Plain (digit_with unit digit)
Plain-digit_with unit digit is = by_test (digit == 0) (digit == 1)
  where
    alone : Plain (unit ∷ [])
    alone = Plain-cons unit [] is Plain-none

    by_test : (none one : Bool) → Plain (if none then [] else (if one then unit ∷ [] else kanji_digit digit ∷ unit ∷ []))
    by_test true one = Plain-none
    by_test false true = alone
    by_test false false = Plain-cons (kanji_digit digit) (unit ∷ []) (field-kanji_digit digit) alone

Plain-last_digit : (digit : ℕ) → Plain (last_digit digit)
Plain-last_digit digit = by_test (digit == 0)
  where
    by_test : (none : Bool) → Plain (if none then [] else kanji_digit digit ∷ [])
    by_test true = Plain-none
    by_test false = Plain-cons (kanji_digit digit) [] (field-kanji_digit digit) Plain-none

Plain-group : (n : ℕ) → Plain (spelled_group n)
Plain-group n =
    Plain-append (digit_with 0x5343 (n / 1000)) (digit_with 0x767E (n / 100 % 10) ++ (digit_with 0x5341 (n / 10 % 10) ++ last_digit (n % 10))) (Plain-digit_with 0x5343 (n / 1000) (omega arith, omega arith)) (Plain-append (digit_with 0x767E (n / 100 % 10)) (digit_with 0x5341 (n / 10 % 10) ++ last_digit (n % 10)) (Plain-digit_with 0x767E (n / 100 % 10) (omega arith, omega arith)) (Plain-append (digit_with 0x5341 (n / 10 % 10)) (last_digit (n % 10)) (Plain-digit_with 0x5341 (n / 10 % 10) (omega arith, omega arith)) (Plain-last_digit (n % 10))))

Plain-group_with : (unit n : ℕ) → IsFieldCharacter unit → Plain (group_with unit n)
Plain-group_with unit n is = by_test (n == 0)
  where
    by_test : (none : Bool) → Plain (if none then [] else spelled_group n ++ unit ∷ [])
    by_test true = Plain-none
    by_test false = Plain-append (spelled_group n) (unit ∷ []) (Plain-group n) (Plain-cons unit [] is Plain-none)

Plain-spelled : (n : ℕ) → Plain (spelled n)
unfolding spelled
Plain-spelled n =
    Plain-append (group_with 0x5146 (n / 1000000000000)) (group_with 0x5104 (n / 100000000 % 10000) ++ (group_with 0x4E07 (n / 10000 % 10000) ++ spelled_group (n % 10000))) (Plain-group_with 0x5146 (n / 1000000000000) (omega arith, omega arith)) (Plain-append (group_with 0x5104 (n / 100000000 % 10000)) (group_with 0x4E07 (n / 10000 % 10000) ++ spelled_group (n % 10000)) (Plain-group_with 0x5104 (n / 100000000 % 10000) (omega arith, omega arith)) (Plain-append (group_with 0x4E07 (n / 10000 % 10000)) (spelled_group (n % 10000)) (Plain-group_with 0x4E07 (n / 10000 % 10000) (omega arith, omega arith)) (Plain-group (n % 10000))))

PlainTexts-units : (key : List ℕ) → PlainTexts (units_of key)
PlainTexts-units key = by_test (get_or key 0 0 == 0x30)
  where
    by_test : (b : Bool) → PlainTexts (if b then [] else spelled (number_of key) ∷ [])
    by_test true = PlainTexts-none
    by_test false = PlainTexts-cons (spelled (number_of key)) [] (Plain-spelled (number_of key)) PlainTexts-none

PlainTexts-numbers : (key : List ℕ) → Plain key → PlainTexts (number_values key)
PlainTexts-numbers key plain = by_test (is_number key)
  where
    by_test : (b : Bool) → PlainTexts (if b then full_width key ∷ kanji_digits key ∷ units_of key else [])
    by_test true =
        PlainTexts-cons (full_width key) (kanji_digits key ∷ units_of key) (Plain-full_width key plain) (PlainTexts-cons (kanji_digits key) (units_of key) (Plain-kanji_digits key) (PlainTexts-units key))
    by_test false = PlainTexts-none

PlainTexts-wide : (list : List Candidate) → PlainValues list → PlainTexts (wide_values list)
PlainTexts-wide list are text h =
    let r = from_map full_width text (filter is_half (map (λ (candidate : Candidate). candidate.value) list)) h in
    let kept = from_filter is_half r.0 (map (λ (candidate : Candidate). candidate.value) list) r.1 in
    let made = from_map (λ (candidate : Candidate). candidate.value) r.0 list kept.0 in
    subst Plain r.2 (Plain-full_width r.0 (subst Plain made.2 (are made.0 made.1)))

abbrev PlainRows : List ValueRow → Type 0
PlainRows rows = (row : ValueRow) → Among row rows → Plain row.value

PlainTexts-values : (rows : List ValueRow) (reading : List ℕ) → PlainRows rows → PlainTexts (values_of rows reading)
unfolding values_of
PlainTexts-values rows reading are text h =
    let r = from_map (λ (row : ValueRow). row.value) text (filter (λ (row : ValueRow). is_text reading row.reading) rows) h in
    let kept = from_filter (λ (row : ValueRow). is_text reading row.reading) r.0 rows r.1 in
    subst Plain r.2 (are r.0 kept.0)

PlainRows-kanji : (rows : List ValueRow) → PlainRows rows → PlainRows (kanji_rows rows)
unfolding kanji_rows
PlainRows-kanji rows are row h =
    let r = from_flat_map single_kanji row rows h in
    let made = from_map (λ c. record { reading = r.0.reading; value = c ∷ [] }) row r.0.value r.2 in
    subst (λ (x : ValueRow). Plain x.value) made.2 (Plain-cons made.0 [] (are r.0 r.1 made.0 made.1) Plain-none)

-- ---- The rules

module _ (ask : Asked) (fields : AreListsFields ask.lists) (plain : Plain ask.key) where
  symbols : PlainRows ask.lists.symbols
  symbols row h = Plain-from_field row.value (from_all (λ (x : ValueRow). IsField x.value) ask.lists.symbols fields.symbols row h)

  kanji : PlainRows ask.lists.kanji
  kanji row h = Plain-from_field row.value (from_all (λ (x : ValueRow). IsField x.value) ask.lists.kanji fields.kanji row h)

  PlainTexts-by : (rule : ℕ) (list : List Candidate) → PlainValues list → PlainTexts (values_by rule ask list)
  PlainTexts-by rule list are = by_tests (rule == 2) (rule == 3) (rule == 4) (rule == 5) (rule == 6)
    where
      by_tests : (two three four five six : Bool) → PlainTexts (if two then kana_values ask.key else (if three then number_values ask.key else (if four then wide_values list else (if five then values_of ask.lists.symbols ask.key else (if six then values_of (kanji_rows ask.lists.kanji) ask.key else [])))))
      by_tests true three four five six = PlainTexts-kana ask.key plain
      by_tests false true four five six = PlainTexts-numbers ask.key plain
      by_tests false false true five six = PlainTexts-wide list are
      by_tests false false false true six = PlainTexts-values ask.lists.symbols ask.key symbols
      by_tests false false false false true =
          PlainTexts-values (kanji_rows ask.lists.kanji) ask.key (PlainRows-kanji ask.lists.kanji kanji)
      by_tests false false false false false = PlainTexts-none

  PlainValues-rewritten : (rule : ℕ) (list : List Candidate) → PlainValues list → PlainValues (rewritten rule ask list)
  unfolding rewritten
  PlainValues-rewritten rule list are = by_test (rule == 1)
    where
      by_test : (b : Bool) → PlainValues (if b then put_first (chosen_before ask list) list else with_values list (values_by rule ask list))
      by_test true = PlainValues-put_first (chosen_before ask list) list are
      by_test false = PlainValues-with_values (values_by rule ask list) list are (PlainTexts-by rule list are)

  PlainValues-rewritten_by : (rules : List ℕ) (list : List Candidate) → PlainValues list → PlainValues (rewritten_by rules ask list)
  PlainValues-rewritten_by [] list are = are
  PlainValues-rewritten_by (rule ∷ rules) list are =
      PlainValues-rewritten_by rules (rewritten rule ask list) (PlainValues-rewritten rule list are)

-- ---- The values of a span

module _ (d : DataLists) (fields : AreListsFields d) where
  Plain-word : (row : ℕ) → Plain (word_at d row).value
  unfolding word_at
  Plain-word row =
      read-holds (λ (x : WordRow). Plain x.value) d.words row no_word (λ x h. Plain-from_field x.value (from_all (λ (y : WordRow). IsField y.value) d.words fields.words x h)) Plain-none

  module _ (rows : List UserRow) (words : (row : UserRow) → Among row rows → Plain row.word) (key : List ℕ) (plain : Plain key) where
    Plain-value_from : (text : List ℕ) (source : Source) → Plain text → Plain (value_from d rows text source)
    Plain-value_from text (User place) its = read-holds (λ (row : UserRow). Plain row.word) rows place no_user_row words Plain-none
    Plain-value_from text (Word row) its = Plain-word row
    Plain-value_from text Char its = its
    Plain-value_from text Run its = its

    Plain-value_of : (e : Entry) → Plain (value_of d rows key e)
    Plain-value_of e =
        Plain-value_from (slice_range key e.begin e.end) e.source (Plain-take (e.end - e.begin) (drop e.begin key) (Plain-drop e.begin key plain))

    PlainValues-first : (es : List Entry) (span : Span) → PlainValues (first_values d rows key es span)
    unfolding first_values
    PlainValues-first es span candidate h =
        let paths = take MOST_PATHS (paths_in_order d es span) in
        let each = map (candidate_of d rows key es span) paths in
        let kept = from_first_of_each candidate each (from_take MOST_VALUES candidate (first_of_each each) h) in
        let r = from_map (candidate_of d rows key es span) candidate paths kept in
        subst (λ (x : Candidate). Plain x.value) r.2 (Plain-flat_map (λ o. value_of d rows key (entry es o)) r.0 (λ o k. Plain-value_of (entry es o)))

-- ---- Answers

-- the values of these segments
abbrev pub PlainSegments : List Segment → Type 0
PlainSegments segments = (segment : Segment) → Among segment segments → PlainValues segment.candidates

pub PlainSegments-answer : (pinned : Pinned) (rules key bounds : List ℕ) → ArePinnedFields pinned → Plain key → PlainSegments (answer pinned.lists pinned.rows pinned.history rules key bounds).segments
unfolding answer
PlainSegments-answer pinned rules key bounds fields plain segment h =
    let es = entries pinned.lists pinned.rows key bounds in
    let path = (first_answer pinned.lists pinned.rows key bounds).path in
    let r = from_map (segment_of pinned.lists pinned.rows pinned.history rules key es path) segment (cut pinned.lists es bounds path) h in
    subst (λ (x : Segment). PlainValues x.candidates) r.2 (made es path r.0)
  where
    words : (row : UserRow) → Among row pinned.rows → Plain row.word
    words row h = Plain-from_field row.word (from_all (λ (x : UserRow). IsField x.word) pinned.rows fields.rows row h)

    made : (es : List Entry) (path : List ℕ) (part : ℕ × ℕ) → PlainValues (segment_of pinned.lists pinned.rows pinned.history rules key es path part).candidates
    made es path part =
        PlainValues-rewritten_by (record { lists = pinned.lists; history = pinned.history; key = slice_range key part.0 part.1 }) fields.lists (Plain-take (part.1 - part.0) (drop part.0 key) (Plain-drop part.0 key plain)) rules (first_values pinned.lists pinned.rows key es (span_between es path part)) (PlainValues-first pinned.lists fields.lists pinned.rows words key plain es (span_between es path part))

-- ---- Suggestions

from_firsts : {X : Type 0} (differs : X → X → Bool) (x : X) (xs : List X) → Among x (firsts differs xs) → Among x xs
unfolding firsts
from_firsts differs x [] h = h
from_firsts differs x (y ∷ xs) (inl same) = inl same
from_firsts differs x (y ∷ xs) (inr h) =
    inr (from_firsts differs x xs (from_filter (differs y) x (firsts differs xs) h).0)

module _ (pinned : Pinned) (fields : ArePinnedFields pinned) where
  Plain-recalled : (base : List ℕ) (pair : Pair) → Among pair (recalled pinned.history base) → Plain pair.value
  Plain-recalled base pair h =
      let kept = from_filter _ pair pinned.history h in
      Plain-from_field pair.value (from_all (λ (x : Pair). IsField x.value) pinned.history fields.history pair kept.0)

  Plain-offered : (base : List ℕ) (pair : Pair) → Among pair (offered pinned.lists base) → Plain pair.value
  Plain-offered base pair h =
      let r = from_map (word_pair pinned.lists) pair (in_order costs_less (map (priced pinned.lists) (rows_with_prefix (readings pinned.lists) base))) h in
      subst (λ (x : Pair). Plain x.value) r.2 (Plain-word pinned.lists fields.lists r.0.row)

  -- the values that are suggested
  pub Plain-suggested : (base : List ℕ) (pair : Pair) → Among pair (suggestions pinned.lists pinned.history base) → Plain pair.value
  unfolding suggestions
  Plain-suggested [] pair h = absurd h
  Plain-suggested (c ∷ base) pair h =
      let all = recalled pinned.history (c ∷ base) ++ offered pinned.lists (c ∷ base) in
      let kept = from_firsts means_other pair all (from_take MOST_SUGGESTIONS pair (firsts means_other all) h) in
      elim (Among-append_cases pair (recalled pinned.history (c ∷ base)) (offered pinned.lists (c ∷ base)) kept) [ inl a ↦ Plain-recalled (c ∷ base) pair a | inr b ↦ Plain-offered (c ∷ base) pair b ]

-- What lines come to, and what is taken of them.
use Rattle.std.proofs.Common.{◌≡◌, ℕ, zero, suc, ◌+◌, ◌<◌, ◌≤◌, Bool, true, false, List, [], ◌∷◌, ◌++◌, length, length-append, get_or, take, Option, Some, None, Result, Ok, Err, refl, ap, sym, subst, ◌∙◌, inl, inr, arith, append-nil, append_assoc}
use Rattle.std.specs.Prelude.{if◌then◌else◌, ◌==◌, nat_le}
use Rattle.std.specs.List.{All}
use Rattle.std.specs.Str.{is_utf8}
use Rattle.std.proofs.lemmas.Bool.{cases_Bool, leb-false, lt-leb}
use Rattle.std.proofs.lemmas.List.Elements.{All-cons, All-head, All-nil, All-tail, filter_map-append}
use Rattle.mz_base.specs.Lines.{fields_of, is_skipped, lines_of}
use Rattle.mz_base.specs.declared.user.TheConstants.{MOST_USER_ROWS}
use Rattle.mz_base.specs.declared.user.UserRow.{UserRow}
use Rattle.user_dict.specs.Laws.{AllowedIsRead, OutcomesGoByLines, ReadIsAllowed, TakenIsOfOutcomes}
use Rattle.user_dict.specs.Outcomes.{Outcome, Keeps, Nothing, Skips, kept_row, kept_rows, outcome_of, outcome_of_fields, outcome_of_row, outcomes_after, skipped_line, skipped_lines, skips}
use Rattle.user_dict.specs.Rows.{RowFields, Taken, has, is_past, made_row, row_fields, take_fields, take_line, take_lines, take_new, take_row, with_row, with_skip}
use Rattle.user_dict.specs.declared.error.ImportError.{ImportError}
use Rattle.user_dict.specs.declared.error.ImportError.TheVariants as error
use Rattle.user_dict.specs.declared.skipped.Skip.TheVariants as skip
use Rattle.user_dict.specs.declared.skipped.SkippedLine.{SkippedLine}
use Rattle.user_dict.proofs.RowLemmas.{take_lines-read, take_lines-refused}

-- ---- Of one line

-- what was taken before a line, and what the line comes to
abbrev placed : Taken → Outcome → Result Taken ImportError
placed taken (Keeps row) = take_new taken row
placed taken (Skips skipped) = Ok (with_skip taken skipped.line skipped.why)
placed taken Nothing = Ok taken

row-cases : (a b c d : Bool) (taken : Taken) (row : UserRow) → (if a then Ok (with_skip taken row.line skip.Reading) else if b then Ok (with_skip taken row.line skip.Word) else if c then Ok taken else if d then Ok (with_skip taken row.line skip.Limit) else take_new taken row) ≡ placed taken (if a then skips row.line skip.Reading else if b then skips row.line skip.Word else if c then Nothing else if d then skips row.line skip.Limit else Keeps row)
row-cases true b c d taken row = refl
row-cases false true c d taken row = refl
row-cases false false true d taken row = refl
row-cases false false false true taken row = refl
row-cases false false false false taken row = refl

row-placed : (taken : Taken) (row : UserRow) → take_row taken row ≡ placed taken (outcome_of_row taken.rows row)
row-placed taken row =
    row-cases (length row.reading == 0) (length row.word == 0) (has taken.rows row) (is_past taken.rows row) taken row

fields-placed : (taken : Taken) (number : ℕ) (fields : Option RowFields) → take_fields taken number fields ≡ placed taken (outcome_of_fields taken.rows number fields)
fields-placed taken number None = refl
fields-placed taken number (Some fields) = row-placed taken (made_row number fields)

skipped-cases : (b : Bool) (taken : Taken) (given : Result Taken ImportError) (outcome : Outcome) → given ≡ placed taken outcome → (if b then Ok taken else given) ≡ placed taken (if b then Nothing else outcome)
skipped-cases true taken given outcome is = refl
skipped-cases false taken given outcome is = is

line-placed : (taken : Taken) (number : ℕ) (line : List ℕ) → is_utf8 line ≡ true → take_line taken number line ≡ placed taken (outcome_of taken.rows number line)
unfolding take_line
line-placed taken number line text =
    rw text (skipped-cases (is_skipped line) taken (take_fields taken number (row_fields (fields_of line))) (outcome_of_fields taken.rows number (row_fields (fields_of line))) (fields-placed taken number (row_fields (fields_of line))))

line-refused : (taken : Taken) (number : ℕ) (line : List ℕ) → is_utf8 line ≡ false → take_line taken number line ≡ Err (error.NotUtf8 number)
unfolding take_line
line-refused taken number line other = rw other refl

-- what is taken after a line
record Adds (taken : Taken) (outcome : Outcome) (next : Taken) : Type 0 where
  rows : next.rows ≡ taken.rows ++ kept_rows (outcome ∷ [])
  skipped : next.skipped ≡ taken.skipped ++ skipped_lines (outcome ∷ [])
  few : length taken.rows ≤ MOST_USER_ROWS → length next.rows ≤ MOST_USER_ROWS

kept-adds : (taken next : Taken) (row : UserRow) → length taken.rows < MOST_USER_ROWS → with_row taken row ≡ next → Adds taken (Keeps row) next
kept-adds taken next row room is = record {
  rows = ap (λ (taken : Taken). taken.rows) (sym is);
  skipped = ap (λ (taken : Taken). taken.skipped) (sym is) ∙ sym (append-nil taken.skipped);
  few = λ few.
      let long = ap (λ (taken : Taken). length taken.rows) is in
      omega (arith, long, room, length-append taken.rows (row ∷ []));
}

placed-adds : (taken next : Taken) (outcome : Outcome) → placed taken outcome ≡ Ok next → Adds taken outcome next
placed-adds taken next (Keeps row) is = elim (cases_Bool (nat_le MOST_USER_ROWS (length taken.rows))) [
  | inl full ↦ absurd (let no : Err (error.Limit row.line) ≡ Ok next = rw full at is in cc)
  | inr room ↦
      let same : Ok (with_row taken row) ≡ Ok next = rw room at is in
      kept-adds taken next row (leb-false MOST_USER_ROWS (length taken.rows) room) cc
]
placed-adds taken next (Skips skipped) is =
    let same : with_skip taken skipped.line skipped.why ≡ next = cc in
    record {
      rows = ap (λ (taken : Taken). taken.rows) (sym same) ∙ sym (append-nil taken.rows);
      skipped = ap (λ (taken : Taken). taken.skipped) (sym same);
      few = λ few. let long = ap (λ (taken : Taken). length taken.rows) same in omega (arith, long, few);
    }
placed-adds taken next Nothing is =
    let same : taken ≡ next = cc in
    record {
      rows = ap (λ (taken : Taken). taken.rows) (sym same) ∙ sym (append-nil taken.rows);
      skipped = ap (λ (taken : Taken). taken.skipped) (sym same) ∙ sym (append-nil taken.skipped);
      few = λ few. let long = ap (λ (taken : Taken). length taken.rows) same in omega (arith, long, few);
    }

-- a line that was taken is text
record IsTakenLine (taken next : Taken) (number : ℕ) (line : List ℕ) : Type 0 where
  text : is_utf8 line ≡ true
  adds : Adds taken (outcome_of taken.rows number line) next

line-adds : (taken next : Taken) (number : ℕ) (line : List ℕ) → take_line taken number line ≡ Ok next → IsTakenLine taken next number line
line-adds taken next number line is = elim (cases_Bool (is_utf8 line)) [
  | inl text ↦
      record { text = text; adds = placed-adds taken next (outcome_of taken.rows number line) (sym (line-placed taken number line text) ∙ is) }
  | inr other ↦ absurd (let no : Err (error.NotUtf8 number) ≡ Ok next = sym (line-refused taken number line other) ∙ is in cc)
]

-- ---- Of lines

kept-more : (rows : List UserRow) (outcome : Outcome) (outcomes : List Outcome) → (rows ++ kept_rows (outcome ∷ [])) ++ kept_rows outcomes ≡ rows ++ kept_rows (outcome ∷ outcomes)
kept-more rows outcome outcomes =
    append_assoc rows (kept_rows (outcome ∷ [])) (kept_rows outcomes)
    ∙ ap (λ (kept : List UserRow). rows ++ kept) (sym (filter_map-append kept_row (outcome ∷ []) outcomes))

skipped-more : (skipped : List SkippedLine) (outcome : Outcome) (outcomes : List Outcome) → (skipped ++ skipped_lines (outcome ∷ [])) ++ skipped_lines outcomes ≡ skipped ++ skipped_lines (outcome ∷ outcomes)
skipped-more skipped outcome outcomes =
    append_assoc skipped (skipped_lines (outcome ∷ [])) (skipped_lines outcomes)
    ∙ ap (λ (lines : List SkippedLine). skipped ++ lines) (sym (filter_map-append skipped_line (outcome ∷ []) outcomes))

record AreTaken (taken : Taken) (number : ℕ) (lines : List (List ℕ)) (last : Taken) : Type 0 where
  rows : last.rows ≡ taken.rows ++ kept_rows (outcomes_after taken.rows number lines)
  skipped : last.skipped ≡ taken.skipped ++ skipped_lines (outcomes_after taken.rows number lines)
  text : All (λ line. is_utf8 line ≡ true) lines
  few : length taken.rows ≤ MOST_USER_ROWS → length last.rows ≤ MOST_USER_ROWS

taken-more : (taken next last : Taken) (number : ℕ) (line : List ℕ) (lines : List (List ℕ)) → IsTakenLine taken next number line → AreTaken next (number + 1) lines last → AreTaken taken number (line ∷ lines) last
unfolding outcomes_after
taken-more taken next last number line lines one more =
    let outcome = outcome_of taken.rows number line in
    let rest = ap (λ (rows : List UserRow). outcomes_after rows (number + 1) lines) one.adds.rows in
    record {
      rows = more.rows ∙ (ap (λ (outcomes : List Outcome). next.rows ++ kept_rows outcomes) rest ∙ (ap (λ (rows : List UserRow). rows ++ kept_rows (outcomes_after (taken.rows ++ kept_rows (outcome ∷ [])) (number + 1) lines)) one.adds.rows ∙ kept-more taken.rows outcome (outcomes_after (taken.rows ++ kept_rows (outcome ∷ [])) (number + 1) lines)));
      skipped = more.skipped ∙ (ap (λ (outcomes : List Outcome). next.skipped ++ skipped_lines outcomes) rest ∙ (ap (λ (skipped : List SkippedLine). skipped ++ skipped_lines (outcomes_after (taken.rows ++ kept_rows (outcome ∷ [])) (number + 1) lines)) one.adds.skipped ∙ skipped-more taken.skipped outcome (outcomes_after (taken.rows ++ kept_rows (outcome ∷ [])) (number + 1) lines)));
      text = All-cons (λ line. is_utf8 line ≡ true) line lines one.text more.text;
      few = λ few. more.few (one.adds.few few);
    }

taken-lines : (taken last : Taken) (number : ℕ) (lines : List (List ℕ)) → take_lines taken number lines ≡ Ok last → AreTaken taken number lines last
unfolding take_lines outcomes_after
taken-lines taken last number [] is =
    let same : taken ≡ last = cc in
    record {
      rows = ap (λ (taken : Taken). taken.rows) (sym same) ∙ sym (append-nil taken.rows);
      skipped = ap (λ (taken : Taken). taken.skipped) (sym same) ∙ sym (append-nil taken.skipped);
      text = All-nil (λ line. is_utf8 line ≡ true);
      few = λ few. let long = ap (λ (taken : Taken). length taken.rows) same in omega (arith, long, few);
    }
taken-lines taken last number (line ∷ lines) is =
    (elim (take_line taken number line) as (λ given. take_line taken number line ≡ given → AreTaken taken number (line ∷ lines) last) [
      | Ok next ↦ λ first. taken-more taken next last number line lines (line-adds taken next number line first) (taken-lines next last (number + 1) lines (sym (take_lines-read taken next number line lines first) ∙ is))
      | Err fault ↦ λ first. absurd (let no : Err fault ≡ Ok last = sym (take_lines-refused taken number line lines fault first) ∙ is in cc)
    ]) refl

-- ---- Line by line

number-more : (number place : ℕ) → number + 1 + place ≡ number + suc place
number-more number place = omega arith

by-place : (rows : List UserRow) (number : ℕ) (lines : List (List ℕ)) (place : ℕ) → place < length lines → get_or (outcomes_after rows number lines) place Nothing ≡ outcome_of (rows ++ kept_rows (take place (outcomes_after rows number lines))) (number + place) (get_or lines place [])
unfolding outcomes_after
by-place rows number [] place inside = absurd (omega (arith, inside))
by-place rows number (line ∷ lines) zero inside =
    let here : number ≡ number + 0 = omega arith in
    ap (λ (rows : List UserRow). outcome_of rows number line) (sym (append-nil rows))
    ∙ ap (λ n. outcome_of (rows ++ []) n line) here
by-place rows number (line ∷ lines) (suc place) inside =
    let outcome = outcome_of rows number line in
    let next = rows ++ kept_rows (outcome ∷ []) in
    let rest = outcomes_after next (number + 1) lines in
    let within : place < length lines = omega (arith, inside) in
    by-place next (number + 1) lines place within
    ∙ (ap (λ (rows : List UserRow). outcome_of rows (number + 1 + place) (get_or lines place [])) (kept-more rows outcome (take place rest))
    ∙ ap (λ n. outcome_of (rows ++ kept_rows (outcome ∷ take place rest)) n (get_or lines place [])) (number-more number place))

-- ---- What reads

placed-reads : (taken : Taken) (outcome : Outcome) → length (taken.rows ++ kept_rows (outcome ∷ [])) ≤ MOST_USER_ROWS → (next : Taken) × (placed taken outcome ≡ Ok next)
placed-reads taken (Keeps row) few =
    let room : length taken.rows < MOST_USER_ROWS = omega (arith, few, length-append taken.rows (row ∷ [])) in
    (with_row taken row, rw (lt-leb MOST_USER_ROWS (length taken.rows) room) refl)
placed-reads taken (Skips skipped) few = (with_skip taken skipped.line skipped.why, refl)
placed-reads taken Nothing few = (taken, refl)

reads : (taken : Taken) (number : ℕ) (lines : List (List ℕ)) → All (λ line. is_utf8 line ≡ true) lines → length (taken.rows ++ kept_rows (outcomes_after taken.rows number lines)) ≤ MOST_USER_ROWS → (last : Taken) × (take_lines taken number lines ≡ Ok last)
unfolding take_lines outcomes_after
reads taken number [] text few = (taken, refl)
reads taken number (line ∷ lines) text few =
    let outcome = outcome_of taken.rows number line in
    let rest = outcomes_after (taken.rows ++ kept_rows (outcome ∷ [])) (number + 1) lines in
    let whole = ap (λ (rows : List UserRow). length rows) (kept-more taken.rows outcome rest) in
    let fewer : length (taken.rows ++ kept_rows (outcome ∷ [])) ≤ MOST_USER_ROWS = omega (arith, few, whole, length-append (taken.rows ++ kept_rows (outcome ∷ [])) (kept_rows rest)) in
    let one = placed-reads taken outcome fewer in
    let first : take_line taken number line ≡ Ok one.0 = line-placed taken number line (All-head (λ line. is_utf8 line ≡ true) line lines text) ∙ one.1 in
    let adds = placed-adds taken one.0 outcome one.1 in
    let left : length ((taken.rows ++ kept_rows (outcome ∷ [])) ++ kept_rows rest) ≤ MOST_USER_ROWS = omega (arith, few, whole) in
    let more = reads one.0 (number + 1) lines (All-tail (λ line. is_utf8 line ≡ true) line lines text) (subst (λ (rows : List UserRow). length (rows ++ kept_rows (outcomes_after rows (number + 1) lines)) ≤ MOST_USER_ROWS) (sym adds.rows) left) in
    (more.0, take_lines-read taken one.0 number line lines first ∙ more.1)

-- ---- The laws

abbrev nothing : Taken
nothing = record { rows = []; skipped = [] }

pub taken-outcomes : TakenIsOfOutcomes
taken-outcomes bytes taken is =
    let all = taken-lines nothing taken 1 (lines_of bytes) is in
    record { rows = all.rows; skipped = all.skipped }

pub outcomes-by_lines : OutcomesGoByLines
outcomes-by_lines bytes place inside =
    let number : 1 + place ≡ place + 1 = omega arith in
    by-place [] 1 (lines_of bytes) place inside
    ∙ ap (λ n. outcome_of (kept_rows (take place (outcomes_after [] 1 (lines_of bytes)))) n (get_or (lines_of bytes) place [])) number

pub read-allowed : ReadIsAllowed
read-allowed bytes taken is =
    let all = taken-lines nothing taken 1 (lines_of bytes) is in
    let none : 0 ≤ MOST_USER_ROWS = omega arith in
    record { text = all.text; few = subst (λ (rows : List UserRow). length rows ≤ MOST_USER_ROWS) all.rows (all.few none) }

pub allowed-read : AllowedIsRead
allowed-read bytes may = reads nothing 1 (lines_of bytes) may.text may.few

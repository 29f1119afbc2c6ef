-- The lines of a text that is put together from whole lines.
use Rattle.std.proofs.Common.{◌≡◌, ℕ, ◌-◌, Bool, true, false, ◌&&◌, ◌==◌, List, [], ◌∷◌, ◌++◌, map, take, drop, length, slice_index, nat_eq, if◌then◌else◌, refl, ap, sym, ◌∙◌, arith, append-nil, length-append, inl, inr}
use Rattle.std.specs.List.{All, slice_split, onto_first, starts_with}
use Rattle.std.specs.Str.Lines.{strip_carriage_return}
use Rattle.std.proofs.lemmas.Bool.{cases_Bool, cond-false, ne_eqb}
use Rattle.std.proofs.lemmas.List.{map-append}
use Rattle.std.proofs.lemmas.List.Splits.{slice_split_none, slice_split-cons_yes, slice_split-cons_no}
use Rattle.mz_base.specs.Lines.{byte_order_mark, without_mark, without_last_feed, lines_in, lines_of}

-- ---- Parts

onto_first-append : (x : ℕ) (part : List ℕ) (parts more : List (List ℕ)) → onto_first x ((part ∷ parts) ++ more) ≡ onto_first x (part ∷ parts) ++ more
onto_first-append x part parts more = refl

-- a list is cut into one part or more
first_part : (p : ℕ → Bool) (xs : List ℕ) → (part : List ℕ) × (parts : List (List ℕ)) × (slice_split p xs ≡ part ∷ parts)
first_part p [] = ([], [], slice_split_none p [] (λ k d inside. absurd (omega (arith, inside))))
first_part p (x ∷ xs) =
    elim (cases_Bool (p x)) [
      | inl is ↦ ([], slice_split p xs, slice_split-cons_yes p x xs is)
      | inr other ↦
          let (part, parts, cut) = first_part p xs in
          (x ∷ part, parts, slice_split-cons_no p x xs other ∙ ap (onto_first x) cut)
    ]

-- parts around a place where the list is cut
slice_split-append : (p : ℕ → Bool) (y : ℕ) → p y ≡ true → (xs ys : List ℕ) → slice_split p (xs ++ y ∷ ys) ≡ slice_split p xs ++ slice_split p ys
slice_split-append p y here [] ys =
    slice_split-cons_yes p y ys here ∙ ap (λ parts. parts ++ slice_split p ys) (sym (slice_split_none p [] (λ k d inside. absurd (omega (arith, inside)))))
slice_split-append p y here (x ∷ xs) ys =
    elim (cases_Bool (p x)) [
      | inl is ↦
          slice_split-cons_yes p x (xs ++ y ∷ ys) is
          ∙ ap (λ parts. [] ∷ parts) (slice_split-append p y here xs ys)
          ∙ ap (λ parts. parts ++ slice_split p ys) (sym (slice_split-cons_yes p x xs is))
      | inr other ↦
          let (part, parts, cut) = first_part p xs in
          slice_split-cons_no p x (xs ++ y ∷ ys) other
          ∙ ap (onto_first x) (slice_split-append p y here xs ys ∙ ap (λ front. front ++ slice_split p ys) cut)
          ∙ ap (λ front. onto_first x front ++ slice_split p ys) (sym cut)
          ∙ ap (λ front. front ++ slice_split p ys) (sym (slice_split-cons_no p x xs other))
    ]

-- ---- The last line feed

abbrev pub last_of : ℕ → List ℕ → ℕ
last_of x [] = x
last_of x (y ∷ ys) = last_of y ys

abbrev but_last : ℕ → List ℕ → List ℕ
but_last x ys = take (length ys) (x ∷ ys)

last-is : (x : ℕ) (ys : List ℕ) → slice_index (x ∷ ys) (length ys) ≡ last_of x ys
last-is x [] = refl
last-is x (y ∷ ys) = last-is y ys

pub last_of-append : (x : ℕ) (xs : List ℕ) (y : ℕ) (ys : List ℕ) → last_of x (xs ++ y ∷ ys) ≡ last_of y ys
last_of-append x [] y ys = refl
last_of-append x (z ∷ xs) y ys = last_of-append z xs y ys

abbrev unended : ℕ → List ℕ → List ℕ
unended x ys = if last_of x ys == 10 then but_last x ys else x ∷ ys

without_last_feed-cons : (x : ℕ) (ys : List ℕ) → without_last_feed (x ∷ ys) ≡ unended x ys
without_last_feed-cons x ys =
    ap (λ n. if slice_index (x ∷ ys) n == 10 then take n (x ∷ ys) else x ∷ ys) (let e : length (x ∷ ys) - 1 ≡ length ys = omega arith in e)
    ∙ ap (λ last. if last == 10 then but_last x ys else x ∷ ys) (last-is x ys)

but_last-more : (x y : ℕ) (ys : List ℕ) → but_last x (y ∷ ys) ≡ x ∷ but_last y ys
but_last-more x y ys = refl

unended-more : (x y : ℕ) (ys : List ℕ) → unended x (y ∷ ys) ≡ x ∷ unended y ys
unended-more x y ys =
    elim (cases_Bool (last_of y ys == 10)) [
      | inl is ↦ rw is refl
      | inr other ↦ rw other refl
    ]

-- what stands before is not touched
unended-append : (x : ℕ) (xs : List ℕ) (y : ℕ) (ys : List ℕ) → unended x (xs ++ y ∷ ys) ≡ x ∷ (xs ++ unended y ys)
unended-append x [] y ys = unended-more x y ys
unended-append x (z ∷ xs) y ys = unended-more x z (xs ++ y ∷ ys) ∙ ap (λ rest. x ∷ rest) (unended-append z xs y ys)

without_last_feed-append : (front : List ℕ) (y : ℕ) (ys : List ℕ) → without_last_feed (front ++ y ∷ ys) ≡ front ++ without_last_feed (y ∷ ys)
without_last_feed-append [] y ys = refl
without_last_feed-append (x ∷ xs) y ys =
    without_last_feed-cons x (xs ++ y ∷ ys) ∙ unended-append x xs y ys ∙ ap (λ rest. x ∷ (xs ++ rest)) (sym (without_last_feed-cons y ys))

-- ---- Lines

-- the lines of a text, which may be empty
abbrev pub text_lines : List ℕ → List (List ℕ)
text_lines text = if length text == 0 then [] else lines_in text

abbrev cut_up : List ℕ → List (List ℕ)
cut_up text = map strip_carriage_return (slice_split (λ b. b == 10) text)

text_lines-some : (front : List ℕ) (y : ℕ) (ys : List ℕ) → text_lines (front ++ y ∷ ys) ≡ lines_in (front ++ y ∷ ys)
text_lines-some front y ys =
    cond-false (length (front ++ y ∷ ys) == 0) [] (lines_in (front ++ y ∷ ys)) (ne_eqb (length (front ++ y ∷ ys)) 0 (λ none. omega (arith, none, length-append front (y ∷ ys))))

lines_in-ended : (front : List ℕ) → lines_in (front ++ 10 ∷ []) ≡ cut_up front
unfolding lines_in
lines_in-ended front =
    ap cut_up (without_last_feed-append front 10 [] ∙ append-nil front)

lines_in-further : (front : List ℕ) (y : ℕ) (ys : List ℕ) → lines_in (front ++ 10 ∷ y ∷ ys) ≡ cut_up front ++ lines_in (y ∷ ys)
unfolding lines_in
lines_in-further front y ys =
    let ended : without_last_feed (front ++ 10 ∷ y ∷ ys) ≡ front ++ 10 ∷ without_last_feed (y ∷ ys) = without_last_feed-append front 10 (y ∷ ys) ∙ ap (λ rest. front ++ rest) (without_last_feed-append (10 ∷ []) y ys) in
    ap cut_up ended
    ∙ ap (map strip_carriage_return) (slice_split-append (λ b. b == 10) 10 refl front (without_last_feed (y ∷ ys)))
    ∙ map-append strip_carriage_return (slice_split (λ b. b == 10) front) (slice_split (λ b. b == 10) (without_last_feed (y ∷ ys)))

-- whole lines, and then others
pub text_lines-append : (front rest : List ℕ) → text_lines (front ++ 10 ∷ rest) ≡ text_lines (front ++ 10 ∷ []) ++ text_lines rest
text_lines-append front [] = sym (append-nil (text_lines (front ++ 10 ∷ [])))
text_lines-append front (y ∷ ys) =
    text_lines-some front 10 (y ∷ ys)
    ∙ lines_in-further front y ys
    ∙ ap (λ lines. lines ++ lines_in (y ∷ ys)) (sym (text_lines-some front 10 [] ∙ lines_in-ended front))
    ∙ ap (λ lines. text_lines (front ++ 10 ∷ []) ++ lines) (sym (text_lines-some [] y ys))

-- one line, and then others
pub text_lines-line : (line rest : List ℕ) → All (λ b. (b == 10) ≡ false) line → strip_carriage_return line ≡ line → text_lines (line ++ 10 ∷ rest) ≡ line ∷ text_lines rest
text_lines-line line rest one kept =
    text_lines-append line rest
    ∙ ap (λ lines. lines ++ text_lines rest) (text_lines-some line 10 [] ∙ lines_in-ended line ∙ ap (map strip_carriage_return) (slice_split_none (λ b. b == 10) line one) ∙ ap (λ kept. kept ∷ []) kept)

-- ---- The byte order mark

and-false : (b : Bool) → (b && false) ≡ false
and-false true = refl
and-false false = refl

abbrev unmarked : Bool → List ℕ → List ℕ
unmarked marked text = if marked then drop 3 text else text

-- what is left of a first line without its mark, whatever follows it
without_mark-first : (front : List ℕ) → (left : List ℕ) × ((rest : List ℕ) → without_mark (front ++ 10 ∷ rest) ≡ left ++ 10 ∷ rest)
without_mark-first [] = ([], λ rest. refl)
without_mark-first (a ∷ []) =
    (a ∷ [], λ rest. ap (λ marked. unmarked marked (a ∷ 10 ∷ rest)) (and-false (nat_eq 0xEF a)))
without_mark-first (a ∷ b ∷ []) =
    (a ∷ b ∷ [], λ rest. ap (λ marked. unmarked marked (a ∷ b ∷ 10 ∷ rest)) (ap (λ more. nat_eq 0xEF a && more) (and-false (nat_eq 0xBB b)) ∙ and-false (nat_eq 0xEF a)))
without_mark-first (a ∷ b ∷ c ∷ front) =
    elim (cases_Bool (starts_with nat_eq (a ∷ b ∷ c ∷ []) byte_order_mark)) [
      | inl is ↦ (front, λ rest. ap (λ marked. unmarked marked (a ∷ b ∷ c ∷ (front ++ 10 ∷ rest))) is)
      | inr other ↦ (a ∷ b ∷ c ∷ front, λ rest. ap (λ marked. unmarked marked (a ∷ b ∷ c ∷ (front ++ 10 ∷ rest))) other)
    ]

pub lines_of-text : (bytes : List ℕ) → lines_of bytes ≡ text_lines (without_mark bytes)
unfolding lines_of
lines_of-text bytes = refl

-- whole lines at the start of a file, and then others
pub lines_of-append : (front rest : List ℕ) → lines_of (front ++ 10 ∷ rest) ≡ lines_of (front ++ 10 ∷ []) ++ text_lines rest
lines_of-append front rest =
    let (left, same) = without_mark-first front in
    lines_of-text (front ++ 10 ∷ rest)
    ∙ ap text_lines (same rest)
    ∙ text_lines-append left rest
    ∙ ap (λ lines. lines ++ text_lines rest) (sym (lines_of-text (front ++ 10 ∷ []) ∙ ap text_lines (same [])))

-- ---- The carriage return

last_of-first : (x : ℕ) (ys : List ℕ) → (last_of x ys == 13) ≡ false → strip_carriage_return (x ∷ ys) ≡ x ∷ ys
last_of-first x ys other =
    ap (λ n. if slice_index (x ∷ ys) n == 13 then take n (x ∷ ys) else x ∷ ys) (let e : length (x ∷ ys) - 1 ≡ length ys = omega arith in e)
    ∙ ap (λ last. if last == 13 then but_last x ys else x ∷ ys) (last-is x ys)
    ∙ cond-false (last_of x ys == 13) _ _ other

-- a line that ends in another byte keeps it
pub strip-kept : (front : List ℕ) (y : ℕ) (ys : List ℕ) → (last_of y ys == 13) ≡ false → strip_carriage_return (front ++ y ∷ ys) ≡ front ++ y ∷ ys
strip-kept [] y ys other = last_of-first y ys other
strip-kept (x ∷ front) y ys other =
    last_of-first x (front ++ y ∷ ys) (ap (λ last. last == 13) (last_of-append x front y ys) ∙ other)

pub last_of-join : (x : ℕ) (xs ys : List ℕ) → last_of x (xs ++ ys) ≡ last_of (last_of x xs) ys
last_of-join x [] ys = refl
last_of-join x (y ∷ xs) ys = last_of-join y xs ys

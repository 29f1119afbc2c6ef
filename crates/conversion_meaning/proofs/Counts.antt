-- How many entries a key has at most.
use Rattle.std.proofs.Common.{◌≡◌, refl, sym, ap, ℕ, zero, suc, ◌+◌, ◌-◌, ◌*◌, ◌<◌, ◌≤◌, Bool, true, false, cond, eqb, inl, inr, List, [], ◌∷◌, ◌++◌, map, Option, Some, None, length, get_or, drop, arith, length-append, length-take, length-drop, mul-suc}
use Rattle.std.specs.Prelude.{slice_range}
use Rattle.std.specs.List.{cons_option, filter, filter_map, flat_map, range_with_len}
use Rattle.std.proofs.lemmas.List.{length-map}
use Rattle.std.proofs.lemmas.List.FromFn.{length-range_with_len}
use Rattle.std.specs.Cmp.Lexicographic.{same_text}
use Rattle.mz_base.specs.Data.{DataLists, AreDataSound, is_text, places, readings, rows_with}
use Rattle.mz_base.specs.Users.{user_rows_with}
use Rattle.mz_base.specs.declared.data.WordRow.{WordRow}
use Rattle.mz_base.specs.declared.lattice.Entry.{Entry}
use Rattle.mz_base.specs.declared.user.UserRow.{UserRow}
use Rattle.mz_base.specs.declared.user.TheConstants.{MOST_USER_ROWS}
use Rattle.mz_base.specs.declared.data.TheConstants.{MOST_WORDS}
use Rattle.mz_base.specs.declared.lattice.TheConstants.{MOST_KEY}
use Rattle.mz_base.specs.declared.lattice.Source.TheVariants.{Char, Run}
use Rattle.conversion_meaning.specs.Bounds.{most_entries}
use Rattle.conversion_meaning.specs.Entries.{node, is_cut, is_run, user_entry, word_entry, user_entries, word_entries, char_entries, run_entries, entries_in, entries_from, entries}
use Rattle.conversion_meaning.specs.Lattices.{IsKey}
use Rattle.conversion_meaning.proofs.Lists.{Among, from_range}

-- a sum over a list
abbrev pub total : (ℕ → ℕ) → List ℕ → ℕ
total f [] = 0
total f (x ∷ xs) = f x + total f xs

total-le : (f g : ℕ → ℕ) (xs : List ℕ) → ((x : ℕ) → Among x xs → f x ≤ g x) → total f xs ≤ total g xs
total-le f g [] below = omega arith
total-le f g (x ∷ xs) below =
    let here = below x (inl refl) in
    let rest = total-le f g xs (λ y h. below y (inr h)) in
    omega arith

total-add : (f g : ℕ → ℕ) (xs : List ℕ) → total (λ x. f x + g x) xs ≡ total f xs + total g xs
total-add f g [] = refl
total-add f g (x ∷ xs) = let rest = total-add f g xs in omega arith

total-zero : (xs : List ℕ) → total (λ _. 0) xs ≡ 0
total-zero [] = refl
total-zero (x ∷ xs) = let rest = total-zero xs in omega arith

length-flat_map : {X : Type 0} (f : ℕ → List X) (xs : List ℕ) → length (flat_map f xs) ≡ total (λ x. length (f x)) xs
length-flat_map f [] = refl
length-flat_map f (x ∷ xs) =
    let rest = length-flat_map f xs in
    let e = length-append (f x) (flat_map f xs) in
    omega (arith, e, rest)

-- 1 where the test passes
abbrev bit : Bool → ℕ
bit b = cond b 1 0

-- a number below the range passes nowhere in it
none_passes : (p : ℕ → Bool) (c a n : ℕ) → c < a → ((e : ℕ) → a ≤ e → e < a + n → p e ≡ true → e ≡ c) → total (λ e. bit (p e)) (range_with_len a n) ≡ 0
none_passes p c a zero below only = refl
none_passes p c a (suc n) below only =
    let rest = none_passes p c (a + 1) n (omega arith) (λ e low high. only e (omega arith) (omega arith)) in
    let here : bit (p a) ≡ 0 = by_test (p a) refl in
    omega (arith, rest, here)
  where
    by_test : (b : Bool) → p a ≡ b → bit b ≡ 0
    by_test true is =
        let same = only a (omega arith) (omega arith) is in absurd (omega arith)
    by_test false is = refl

-- where only one number can pass, at most one does
one_passes : (p : ℕ → Bool) (c a n : ℕ) → ((e : ℕ) → a ≤ e → e < a + n → p e ≡ true → e ≡ c) → total (λ e. bit (p e)) (range_with_len a n) ≤ 1
one_passes p c a zero only = omega arith
one_passes p c a (suc n) only =
    by_test (p a) refl (one_passes p c (a + 1) n (λ e low high. only e (omega arith) (omega arith)))
  where
    by_test : (b : Bool) → p a ≡ b → total (λ e. bit (p e)) (range_with_len (a + 1) n) ≤ 1 → bit b + total (λ e. bit (p e)) (range_with_len (a + 1) n) ≤ 1
    by_test true is rest =
        let same = only a (omega arith) (omega arith) is in
        let none = none_passes p c (a + 1) n (omega arith) (λ e low high. only e (omega arith) (omega arith)) in
        omega (arith, none)
    by_test false is rest = omega (arith, rest)

length-filter-cons : (p : ℕ → Bool) (x : ℕ) (xs : List ℕ) → length (filter p (x ∷ xs)) ≤ bit (p x) + length (filter p xs)
length-filter-cons p x xs = by_test (p x)
  where
    by_test : (b : Bool) → length (cond b (x ∷ filter p xs) (filter p xs)) ≤ bit b + length (filter p xs)
    by_test true = omega arith
    by_test false = omega arith

-- Where each element passes at most one of the tests, all that is kept is no longer than the list.
kept-le : (p : ℕ → ℕ → Bool) (tests xs : List ℕ) → ((x : ℕ) → total (λ t. bit (p t x)) tests ≤ 1) → total (λ t. length (filter (p t) xs)) tests ≤ length xs
kept-le p tests [] once = let e = total-zero tests in omega (arith, e)
kept-le p tests (x ∷ xs) once =
    let rest = kept-le p tests xs once in
    let here = once x in
    let split = total-le (λ t. length (filter (p t) (x ∷ xs))) (λ t. bit (p t x) + length (filter (p t) xs)) tests (λ t _. length-filter-cons (p t) x xs) in
    let e = total-add (λ t. bit (p t x)) (λ t. length (filter (p t) xs)) tests in
    omega (arith, split, e, rest, here)

-- the text of a range has as many characters as the range
length-slice_range : (key : List ℕ) (begin end : ℕ) → begin ≤ end → end ≤ length key → begin + length (slice_range key begin end) ≡ end
length-slice_range key begin end order inside =
    omega (arith, length-take (end - begin) (drop begin key), length-drop begin key)

-- from one position a text stands to one end at most
rows-le : (texts : List (List ℕ)) (key : List ℕ) (begin : ℕ) → begin ≤ length key → total (λ end. length (rows_with texts (slice_range key begin end))) (range_with_len (begin + 1) (length key - begin)) ≤ length texts
unfolding places
rows-le texts key begin inside =
    let numbers = range_with_len 0 (length texts) in
    let p : ℕ → ℕ → Bool = λ end i. is_text (slice_range key begin end) (get_or texts i []) in
    let once : (i : ℕ) → total (λ end. bit (p end i)) (range_with_len (begin + 1) (length key - begin)) ≤ 1 = λ i. one_passes (λ end. p end i) (begin + length (get_or texts i [])) (begin + 1) (length key - begin) (λ end low high passes. ends end i low high passes) in
    let all = kept-le p (range_with_len (begin + 1) (length key - begin)) numbers once in
    let e = length-range_with_len 0 (length texts) in
    omega (arith, all, e)
  where
    ends : (end i : ℕ) → begin + 1 ≤ end → end < begin + 1 + (length key - begin) → is_text (slice_range key begin end) (get_or texts i []) ≡ true → end ≡ begin + length (get_or texts i [])
    ends end i low high passes =
        let same = same_text (get_or texts i []) (slice_range key begin end) (sym passes) in
        let e = length-slice_range key begin end (omega arith) (omega arith) in
        let f = ap length same in
        omega (arith, e, f)

length-filter_map-le : {X Y : Type 0} (f : X → Option Y) (xs : List X) → length (filter_map f xs) ≤ length xs
length-filter_map-le f [] = omega arith
length-filter_map-le {X} {Y} f (x ∷ xs) = by_value (f x) (length-filter_map-le f xs)
  where
    by_value : (o : Option Y) → length (filter_map f xs) ≤ length xs → length (cons_option o (filter_map f xs)) ≤ length (x ∷ xs)
    by_value None rest = omega arith
    by_value (Some y) rest = omega arith

-- each element counts at most so much
total-bound : (f : ℕ → ℕ) (most : ℕ) (xs : List ℕ) → ((x : ℕ) → Among x xs → f x ≤ most) → total f xs ≤ most * length xs
total-bound f most [] below = omega arith
total-bound f most (x ∷ xs) below =
    let here = below x (inl refl) in
    let rest = total-bound f most xs (λ y h. below y (inr h)) in
    let e = mul-suc most (length xs) in
    omega (arith, here, rest, e)

module _ (d : DataLists) (rows : List UserRow) (key bounds : List ℕ) where
  abbrev users : ℕ → ℕ → ℕ
  users begin end = length (user_rows_with rows (slice_range key begin end))

  abbrev words : ℕ → ℕ → ℕ
  words begin end = length (rows_with (readings d) (slice_range key begin end))

  length-cond : (b : Bool) (e : Entry) → length (cond b (e ∷ []) []) ≤ 1
  length-cond true e = omega arith
  length-cond false e = omega arith

  length-entries_in : (begin end : ℕ) → length (entries_in d rows key bounds begin end) ≤ (users begin end + words begin end) + 2
  unfolding entries_in user_entries word_entries char_entries run_entries
  length-entries_in begin end = by_test (is_cut bounds begin end)
    where
      by_test : (cut : Bool) → length (cond cut [] (user_entries d rows key begin end ++ (word_entries d key begin end ++ (char_entries d key begin end ++ run_entries d key begin end)))) ≤ (users begin end + words begin end) + 2
      by_test true = omega arith
      by_test false =
          let a = length-append (user_entries d rows key begin end) (word_entries d key begin end ++ (char_entries d key begin end ++ run_entries d key begin end)) in
          let b = length-append (word_entries d key begin end) (char_entries d key begin end ++ run_entries d key begin end) in
          let c = length-append (char_entries d key begin end) (run_entries d key begin end) in
          let u = length-filter_map-le (user_entry d rows begin end) (user_rows_with rows (slice_range key begin end)) in
          let w = length-map (rows_with (readings d) (slice_range key begin end)) (word_entry d begin end) in
          let x = length-cond (eqb end (begin + 1)) (node d key Char begin end) in
          let y = length-cond (is_run key begin end) (node d key Run begin end) in
          omega (arith, a, b, c, u, w, x, y)

  length-entries_from : (begin : ℕ) → begin ≤ length key → length key ≤ MOST_KEY → length rows ≤ MOST_USER_ROWS → length d.words ≤ MOST_WORDS → length (entries_from d rows key bounds begin) ≤ MOST_WORDS + (MOST_USER_ROWS + 2 * MOST_KEY)
  unfolding entries_from
  length-entries_from begin inside few_characters few_users few_words =
      let ends = range_with_len (begin + 1) (length key - begin) in
      let a = length-flat_map (entries_in d rows key bounds begin) ends in
      let b = total-le (λ end. length (entries_in d rows key bounds begin end)) (λ end. (users begin end + words begin end) + 2) ends (λ end _. length-entries_in begin end) in
      let c = total-add (λ end. users begin end + words begin end) (λ _. 2) ends in
      let e = total-add (users begin) (words begin) ends in
      let u = rows-le (map (λ (row : UserRow). row.reading) rows) key begin inside in
      let w = rows-le (readings d) key begin inside in
      let lu = length-map rows (λ (row : UserRow). row.reading) in
      let lw = length-map d.words (λ (row : WordRow). row.reading) in
      let k = total-bound (λ _. 2) 2 ends (λ x _. omega arith) in
      let n = length-range_with_len (begin + 1) (length key - begin) in
      omega (arith, a, b, c, e, u, w, lu, lw, k, n)

  pub length-entries : length key ≤ MOST_KEY → length rows ≤ MOST_USER_ROWS → length d.words ≤ MOST_WORDS → length (entries d rows key bounds) ≤ most_entries
  unfolding entries
  length-entries few_characters few_users few_words =
      let begins = range_with_len 0 (length key) in
      let a = length-flat_map (entries_from d rows key bounds) begins in
      let b = total-bound (λ begin. length (entries_from d rows key bounds begin)) (MOST_WORDS + (MOST_USER_ROWS + 2 * MOST_KEY)) begins (λ begin h. length-entries_from begin (inside begin h) few_characters few_users few_words) in
      let n = length-range_with_len 0 (length key) in
      omega (arith, a, b, n)
    where
      inside : (begin : ℕ) → Among begin (range_with_len 0 (length key)) → begin ≤ length key
      inside begin h = let r = from_range 0 (length key) begin h in omega (arith, r.1)

-- the entries of a key are few
pub entries-few : (d : DataLists) (rows : List UserRow) (key bounds : List ℕ) → AreDataSound d → length rows ≤ MOST_USER_ROWS → IsKey key → length (entries d rows key bounds) ≤ most_entries
entries-few d rows key bounds sound few_users is =
    let r = length-entries d rows key bounds (omega (arith, is.few)) (omega arith) (omega (arith, sound.few_words)) in
    omega (arith, r)

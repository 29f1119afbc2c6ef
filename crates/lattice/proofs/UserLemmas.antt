-- A text that is longer than each reading of a user's dictionary has no rows there.
use Rattle.std.proofs.Common.{◌≡◌, refl, ap, sym, ℕ, zero, suc, ◌-◌, ◌<◌, ◌≤◌, List, [], ◌∷◌, map, length, get_or, drop, max, arith, inl, length-take, length-drop}
use Rattle.std.specs.Prelude.{slice_range}
use Rattle.std.specs.Cmp.Lexicographic.{same_text}
use Rattle.std.specs.List.{filter_map, fold, range_with_len}
use Rattle.std.proofs.lemmas.List.{get_or-map, length-map}
use Rattle.mz_base.specs.Data.{DataLists, is_text, places}
use Rattle.mz_base.specs.Users.{longest_reading, no_user_row, user_row_at, user_rows_with}
use Rattle.mz_base.specs.declared.user.UserRow.{UserRow}
use Rattle.conversion_meaning.specs.Entries.{user_entries, user_entry}
use Rattle.conversion_meaning.proofs.Lists.{Among, from_filter, from_range}

abbrev longer : ℕ → UserRow → ℕ
longer most row = max most (length row.reading)

-- the most of a list is no less than what it began with, and than each length
longest-from : (most : ℕ) (rows : List UserRow) → most ≤ fold longer most rows
longest-from most [] = omega arith
longest-from most (row ∷ rows) =
    let rest = longest-from (longer most row) rows in omega (arith, rest)

longest-at : (most : ℕ) (rows : List UserRow) (i : ℕ) → i < length rows → length (user_row_at rows i).reading ≤ fold longer most rows
longest-at most [] i inside = absurd (omega (arith, inside))
longest-at most (row ∷ rows) zero inside =
    let rest = longest-from (longer most row) rows in omega (arith, rest)
longest-at most (row ∷ rows) (suc i) inside =
    longest-at (longer most row) rows i (omega (arith, inside))

reading-fits : (rows : List UserRow) (i : ℕ) → i < length rows → length (user_row_at rows i).reading ≤ longest_reading rows
unfolding longest_reading
reading-fits rows i inside = longest-at 0 rows i inside

none_among : (xs : List ℕ) → ((x : ℕ) → Among x xs → ⊥) → xs ≡ []
none_among [] none = refl
none_among (x ∷ xs) none = absurd (none x (inl refl))

longer_has_none : (rows : List UserRow) (text : List ℕ) → longest_reading rows < length text → user_rows_with rows text ≡ []
unfolding places
longer_has_none rows text above =
    none_among (user_rows_with rows text) none
  where
    texts : List (List ℕ)
    texts = map (λ (row : UserRow). row.reading) rows

    none : (i : ℕ) → Among i (user_rows_with rows text) → ⊥
    none i h =
        let kept = from_filter (λ i. is_text text (get_or texts i [])) i (range_with_len 0 (length texts)) h in
        let low = (from_range 0 (length texts) i kept.0).1 in
        let inside : i < length rows = omega (arith, low, length-map rows (λ (row : UserRow). row.reading)) in
        let same : get_or texts i [] ≡ text = same_text (get_or texts i []) text (sym kept.1) in
        let reading = get_or-map (λ (row : UserRow). row.reading) rows i no_user_row [] inside in
        let fits = reading-fits rows i inside in
        let e = ap length same in
        let f = ap length reading in
        omega (arith, above, fits, e, f)

-- so a part that is longer has no entries of the user's
pub user_entries-longer : (d : DataLists) (rows : List UserRow) (key : List ℕ) (begin end : ℕ) → begin ≤ end → end ≤ length key → longest_reading rows < end - begin → user_entries d rows key begin end ≡ []
unfolding user_entries
user_entries-longer d rows key begin end order inside above =
    let e : length (slice_range key begin end) ≡ end - begin = omega (arith, length-take (end - begin) (drop begin key), length-drop begin key) in
    ap (filter_map (user_entry d rows begin end)) (longer_has_none rows (slice_range key begin end) (omega (arith, e, above)))

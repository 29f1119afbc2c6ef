-- The rows that a look-up gives are there.
use Rattle.std.proofs.Common.{◌≡◌, subst, ap, ℕ, ◌<◌, List, [], length, get_or, arith, Bool}
use Rattle.std.specs.List.{All, range_with_len}
use Rattle.std.specs.Prelude.{slice_range}
use Rattle.std.proofs.lemmas.List.{length-map}
use Rattle.mz_base.specs.Data.{DataLists, hits_to, is_text, places, readings, rows_with}
use Rattle.mz_base.specs.Users.{user_rows_with}
use Rattle.mz_base.specs.declared.data.Hit.{Hit}
use Rattle.mz_base.specs.declared.data.WordRow.{WordRow}
use Rattle.mz_base.specs.declared.user.UserRow.{UserRow}
use Rattle.conversion_meaning.proofs.Lists.{Among, Among-get_or, All-from_among, from_filter, from_map, from_range}

-- a place is one of the texts'
pub place_is_inside : (passes : List ℕ → Bool) (texts : List (List ℕ)) (i : ℕ) → Among i (places passes texts) → i < length texts
unfolding places
place_is_inside passes texts i h =
    let kept = from_filter (λ i. passes (get_or texts i [])) i (range_with_len 0 (length texts)) h in
    let inside = from_range 0 (length texts) i kept.0 in
    omega (arith, inside.1)

-- what the dictionary lends for a reading are places of its rows
pub user_row_is_inside : (rows : List UserRow) (text : List ℕ) (found : List ℕ) (k d : ℕ) → found ≡ user_rows_with rows text → k < length found → get_or found k d < length rows
user_row_is_inside rows text found k d is inside =
    let among = subst (λ (xs : List ℕ). Among (get_or found k d) xs) is (Among-get_or found k d inside) in
    let h = place_is_inside (is_text text) _ _ among in
    omega (arith, h, length-map rows (λ (row : UserRow). row.reading))

-- a hit is a word row
pub hits_are_rows : (d : DataLists) (key : List ℕ) (begin end : ℕ) → All (λ (hit : Hit). hit.row < length d.words) (hits_to (readings d) key begin end)
hits_are_rows d key begin end =
    All-from_among (λ (hit : Hit). hit.row < length d.words) (hits_to (readings d) key begin end) inside
  where
    inside : (hit : Hit) → Among hit (hits_to (readings d) key begin end) → hit.row < length d.words
    inside hit h =
        let r = from_map (λ row. record { end = end; row = row }) hit (rows_with (readings d) (slice_range key begin end)) h in
        let place = place_is_inside (is_text (slice_range key begin end)) (readings d) r.0 r.1 in
        let same : r.0 ≡ hit.row = ap (λ (x : Hit). x.row) r.2 in
        omega (arith, place, same, length-map d.words (λ (row : WordRow). row.reading))

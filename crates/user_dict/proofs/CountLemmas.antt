-- How many rows have each reading: one row more.
use Rattle.std.proofs.Common.{◌≡◌, ℕ, ◌+◌, true, false, cond, List, [], ◌∷◌, ◌++◌, Vec, Global, refl, ap, sym, ◌∙◌, inl, inr, Decides, Some, arith}
use Rattle.std.specs.Option.{option_map_or}
use Rattle.std.specs.Map.{lookup, KeepsOthers}
use Rattle.std.specs.Str.{bytes_eq}
use Rattle.std.proofs.lemmas.Bool.{cases_Bool}
use Rattle.std.proofs.lemmas.Bool.Decides.{same_from_decides}
use Rattle.std.proofs.lemmas.List.Sums.{fold_push}
use Rattle.std.proofs.lemmas.Slice.Eq.{bytes_eq-Decides}
use Rattle.mz_base.specs.Data.{is_text}
use Rattle.mz_base.specs.declared.user.UserRow.{UserRow}
use Rattle.user_dict.specs.Kept.{AreCounts, count_of}
use Rattle.user_dict.specs.Rows.{times_in}
use Rattle.user_dict.specs.declared.counts.Counts.{Counts}

bytes_eq-turned : (bs cs : List ℕ) → bytes_eq bs cs ≡ bytes_eq cs bs
bytes_eq-turned bs cs =
    let one = bytes_eq-Decides cs bs in
    let turned : Decides (bytes_eq cs bs) (bs ≡ cs) = (λ is. sym (one.0 is), λ same. one.1 (sym same)) in
    same_from_decides _ _ (bytes_eq-Decides bs cs) turned

bytes_eq-same : (bs cs ds : List ℕ) → bytes_eq bs cs ≡ true → bytes_eq bs ds ≡ bytes_eq cs ds
bytes_eq-same bs cs ds is = ap (λ x. bytes_eq x ds) ((bytes_eq-Decides bs cs).0 is)

-- a text that is not this one is under no key of this one
keys_apart : (bs cs ks : List ℕ) → bytes_eq bs cs ≡ false → bytes_eq bs ks ≡ true → bytes_eq cs ks ≡ false
keys_apart bs cs ks other is = bytes_eq-turned cs ks ∙ sym (bytes_eq-same bs ks cs is) ∙ other

-- the number of a reading is put back with one more
pub one-more : (key : Vec ℕ Global) (text : List ℕ) (old new : List (Vec ℕ Global × ℕ)) (n : ℕ) → KeepsOthers (λ (x y : Vec ℕ Global). bytes_eq x.items y.items) (λ (y : Vec ℕ Global). bytes_eq key.items y.items) old new → lookup (λ (k : Vec ℕ Global). bytes_eq key.items k.items) new ≡ Some (n + 1) → n ≡ option_map_or (λ n. n) (lookup (λ (k : Vec ℕ Global). bytes_eq key.items k.items) old) 0 → option_map_or (λ n. n) (lookup (λ (k : Vec ℕ Global). bytes_eq text k.items) new) 0 ≡ option_map_or (λ n. n) (lookup (λ (k : Vec ℕ Global). bytes_eq text k.items) old) 0 + cond (bytes_eq text key.items) 1 0
unfolding KeepsOthers
one-more key text old new n keeps found count =
    elim (cases_Bool (bytes_eq text key.items)) [
      | inl is ↦
          let same = (bytes_eq-Decides text key.items).0 is in
          rw (is, same, found, ← count) refl
      | inr other ↦
          let stays = keeps (λ k. bytes_eq text k.items) (λ x y is. bytes_eq-same text x.items y.items is) (λ k is. keys_apart key.items text k.items (bytes_eq-turned key.items text ∙ other) is) in
          rw (other, stays) (omega arith)
    ]

times_in-push : (rows : List UserRow) (row : UserRow) (text : List ℕ) → times_in (rows ++ row ∷ []) text ≡ times_in rows text + cond (is_text text row.reading) 1 0
times_in-push rows row text = fold_push (λ a x. a + cond (is_text text x.reading) 1 0) 0 rows row

-- one row more
pub AreCounts-push : (old new : Counts) (rows : List UserRow) (row : UserRow) (reading : List ℕ) → AreCounts old rows → reading ≡ row.reading → ((text : List ℕ) → count_of new text ≡ count_of old text + cond (bytes_eq text reading) 1 0) → AreCounts new (rows ++ row ∷ [])
AreCounts-push old new rows row reading are same added text =
    added text
    ∙ (ap (λ n. n + cond (bytes_eq text reading) 1 0) (are text)
    ∙ (ap (λ reading. times_in rows text + cond (bytes_eq text reading) 1 0) same
    ∙ (ap (λ b. times_in rows text + cond b 1 0) (bytes_eq-turned text row.reading) ∙ sym (times_in-push rows row text))))

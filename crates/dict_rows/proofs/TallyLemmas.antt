-- A tally after one row more.
use Rattle.std.proofs.Common.{◌≡◌, ℕ, ◌+◌, ◌<◌, ◌≤◌, cond, List, [], ◌∷◌, ◌++◌, length, get_or, set, inl, inr, ◌∙◌, arith}
use Rattle.std.proofs.lemmas.Bool.{cases_Bool, cases_eq}
use Rattle.std.proofs.lemmas.List.{get_or-set_same, get_or-set_other}
use Rattle.std.proofs.lemmas.Grind.{get_or_default_zero}
use Rattle.std.proofs.lemmas.List.Sums.{fold_push}
use Rattle.std.proofs.lemmas.Slice.Eq.{bytes_eq-Decides}
use Rattle.mz_base.specs.Data.{is_text}
use Rattle.mz_base.specs.declared.data.TheConstants.{MOST_HOMOPHONES}
use Rattle.mz_base.specs.declared.data.WordRow.{WordRow}
use Rattle.mz_base.specs.Data.{times_in}
use Rattle.dict_rows.specs.Tally.{IsTally, count_of}
use Rattle.dict_rows.specs.declared.bucket.TheConstants.{BUCKETS}
use Rattle.dict_rows.specs.declared.tally.Tally.{Tally}

pub times_in-push : (rows : List WordRow) (row : WordRow) (text : List ℕ) → times_in (rows ++ row ∷ []) text ≡ times_in rows text + cond (is_text text row.reading) 1 0
times_in-push rows row text = fold_push (λ a x. a + cond (is_text text x.reading) 1 0) 0 rows row

-- where a count is raised, no other falls
pub raised-grows : (counts : List ℕ) (place count : ℕ) → place < length counts → count ≡ get_or counts place count → (other : ℕ) → get_or counts other 0 ≤ get_or (set counts place (count + 1)) other 0
raised-grows counts place count inside is other =
    elim (cases_eq other place) [
      | inl same ↦
          let here : count ≡ get_or counts place 0 = is ∙ get_or_default_zero counts place count inside in
          rw (same, get_or-set_same counts place (count + 1) 0 inside) (omega (arith, here))
      | inr apart ↦ rw (get_or-set_other counts place other (count + 1) 0 apart) (omega arith)
    ]

pub raised-rises : (counts : List ℕ) (place count : ℕ) → place < length counts → count ≡ get_or counts place count → get_or counts place 0 < get_or (set counts place (count + 1)) place 0
raised-rises counts place count inside is =
    let here : count ≡ get_or counts place 0 = is ∙ get_or_default_zero counts place count inside in
    rw (get_or-set_same counts place (count + 1) 0 inside) (omega (arith, here))

-- no count falls, and that of the row's reading rises where it is not full
pub IsTally-push : (tally new : Tally) (rows : List WordRow) (row : WordRow) → IsTally tally rows → length new.counts.items ≡ BUCKETS → ((bucket : ℕ) → get_or tally.counts.items bucket 0 ≤ get_or new.counts.items bucket 0) → (count_of tally row.reading < MOST_HOMOPHONES → count_of tally row.reading < count_of new row.reading) → IsTally new (rows ++ row ∷ [])
IsTally-push tally new rows row tallied whole grown risen = record {
  whole = whole;
  counted = λ reading room.
      elim (cases_Bool (is_text reading row.reading)) [
        | inl is ↦
            let same : row.reading ≡ reading = (bytes_eq-Decides row.reading reading).0 is in
            let risen : count_of tally reading < MOST_HOMOPHONES → count_of tally reading < count_of new reading = rw same at risen in
            let more : times_in (rows ++ row ∷ []) reading ≡ times_in rows reading + 1 = rw is at (times_in-push rows row reading) in
            rw more (one_more _ _ _ (tallied.counted reading) risen (grown _) room)
        | inr other ↦
            let same : times_in (rows ++ row ∷ []) reading ≡ times_in rows reading + 0 = rw other at (times_in-push rows row reading) in
            rw same (as_many _ _ _ (tallied.counted reading) (grown _) room)
      ];
}
  where
    one_more : (times count after : ℕ) → (count < MOST_HOMOPHONES → times ≤ count) → (count < MOST_HOMOPHONES → count < after) → count ≤ after → after < MOST_HOMOPHONES → times + 1 ≤ after
    one_more times count after counted risen grown room =
        let low : count < MOST_HOMOPHONES = omega (arith, grown, room) in
        omega (arith, counted low, risen low)

    as_many : (times count after : ℕ) → (count < MOST_HOMOPHONES → times ≤ count) → count ≤ after → after < MOST_HOMOPHONES → times + 0 ≤ after
    as_many times count after counted grown room = omega (arith, counted (omega (arith, grown, room)), grown)

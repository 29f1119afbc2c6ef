-- What an index of the words finds cheapest is what the data set's words are.
use Rattle.std.proofs.Common.{◌≡◌, ℕ, ℤ, List, [], ◌∷◌, map, take, refl, ap, ◌∙◌}
use Rattle.std.proofs.Math.ListN.{get_or-map}
use Rattle.mz_base.specs.Data as means
use Rattle.mz_base.specs.Data.{DataLists, costs_less, no_word, readings, rows_with_prefix, word_at}
use Rattle.mz_base.specs.Ordered.{in_order}
use Rattle.mz_base.specs.declared.data.WordRow.{WordRow}
use Rattle.dict_index.specs.Cheapest.{Indexed, cheapest, indexed_rows, priced}

module _ (d : DataLists) where
  abbrev cost : WordRow → ℤ
  cost row = row.cost

  priced-word : (row : ℕ) → priced (map cost d.words) row ≡ means.priced d row
  unfolding word_at
  priced-word row = ap (λ cost. record { row = row; cost = cost }) (get_or-map cost d.words row no_word)

  priced-words : (rows : List ℕ) → map (priced (map cost d.words)) rows ≡ map (means.priced d) rows
  priced-words [] = refl
  priced-words (row ∷ rows) = rw (priced-word row, priced-words rows) refl

  pub cheapest-words : (index : Indexed) (most : ℕ) (prefix : List ℕ) → index ≡ indexed_rows d.words → cheapest index.costs most (rows_with_prefix index.readings prefix) ≡ means.cheapest d most (rows_with_prefix (readings d) prefix)
  cheapest-words index most prefix is =
      ap (λ (index : Indexed). cheapest index.costs most (rows_with_prefix index.readings prefix)) is
      ∙ ap (λ rows. take most (in_order costs_less rows)) (priced-words (rows_with_prefix (readings d) prefix))

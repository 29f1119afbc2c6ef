-- The entries that a search has sorted already.
use Rattle.std.specs.Prelude.{◌≡◌, ℕ, ◌<◌, List, Option, None, Some, length, slice_index_or}
use Rattle.nbest.specs.declared.tail.Sibling.{Sibling}

-- the entries that end at a position, by what they add before this left id
pub record Listed : Type 0 where
  pub begin : ℕ
  pub lid : ℕ
  pub siblings : List Sibling

-- some slot keeps these entries for this position and this left id
pub record Stands (cache : List (Option Listed)) (begin lid : ℕ) (ss : List Sibling) : Type 0 where
  pub place : ℕ
  pub inside : place < length cache
  pub is : slice_index_or cache place None ≡ Some (record { begin = begin; lid = lid; siblings = ss })

-- The entries of a part, where a bound cuts it and where none does.
use Rattle.std.proofs.Common.{◌≡◌, refl, ℕ, true, false, List, [], ◌++◌}
use Rattle.mz_base.specs.Data.{DataLists}
use Rattle.mz_base.specs.declared.user.UserRow.{UserRow}
use Rattle.conversion_meaning.specs.Entries.{char_entries, entries_in, is_cut, run_entries, user_entries, word_entries}

module _ (d : DataLists) (rows : List UserRow) (key bounds : List ℕ) (begin end : ℕ) where
  pub entries_in-cut : is_cut bounds begin end ≡ true → entries_in d rows key bounds begin end ≡ []
  unfolding entries_in
  entries_in-cut cut = rw cut refl

  pub entries_in-uncut : is_cut bounds begin end ≡ false → entries_in d rows key bounds begin end ≡ user_entries d rows key begin end ++ (word_entries d key begin end ++ (char_entries d key begin end ++ run_entries d key begin end))
  unfolding entries_in
  entries_in-uncut uncut = rw uncut refl

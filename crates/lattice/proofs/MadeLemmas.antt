-- What an entry of a lattice that was built stands for.
use Rattle.std.proofs.Common.{◌≡◌, ap, subst, ℕ, ◌+◌, ◌<◌, Bool, true, false, ◌≤◌, cond, eqb, inl, inr, List, [], ◌∷◌, ◌++◌, Option, Some, None, length, arith}
use Rattle.std.specs.Prelude.{ℤ, slice_range}
use Rattle.std.specs.List.{All, range_with_len}
use Rattle.std.specs.Option.{option_map}
use Rattle.std.proofs.lemmas.List.{length-map}
use Rattle.mz_base.specs.Data.{DataLists, AreDataSound, is_text, pos_of, readings, rows_with}
use Rattle.mz_base.specs.Users.{user_row_at, user_rows_with}
use Rattle.mz_base.specs.declared.data.WordRow.{WordRow}
use Rattle.mz_base.specs.declared.lattice.Entry.{Entry}
use Rattle.mz_base.specs.declared.lattice.Lattice.{Lattice}
use Rattle.mz_base.specs.declared.lattice.Source.{Source}
use Rattle.mz_base.specs.declared.lattice.Source.TheVariants.{User, Word, Char, Run}
use Rattle.mz_base.specs.declared.user.UserRow.{UserRow}
use Rattle.conversion_meaning.specs.Entries.{suppressed, entry_of, user_entry, word_entry, node, is_run, user_entries, word_entries, char_entries, run_entries, is_cut, entries_in, entries_from, entries}
use Rattle.conversion_meaning.specs.Lattices.{IsEntry, IsLatticeOf, entry, no_entry}
use Rattle.conversion_meaning.proofs.EntryLemmas.{IsEntry-entries}
use Rattle.conversion_meaning.proofs.Lists.{All-from_among, Among, Among-append_cases, Among-get_or, from_filter_map, from_flat_map, from_map}
use Rattle.lattice.specs.Rows.{IsThere}
use Rattle.lattice.proofs.PlaceLemmas.{place_is_inside}

-- the list has just one element, or none
from_cond : {X : Type 0} (b : Bool) (x y : X) → Among y (cond b (x ∷ []) []) → x ≡ y
from_cond true x y (inl same) = same
from_cond true x y (inr none) = absurd none
from_cond false x y none = absurd none

from_part : (source : Source) (begin end : ℕ) (e : Entry) (part : Option (ℕ × ℤ)) → option_map (entry_of source begin end) part ≡ Some e → source ≡ e.source
from_part source begin end e None is = absurd (let h : None ≡ Some e = is in cc)
from_part source begin end e (Some n) is =
    let same : entry_of source begin end n ≡ e = cc in
    ap (λ (x : Entry). x.source) same

from_user : (source : Source) (begin end : ℕ) (e : Entry) (part : Option (ℕ × ℤ)) (b : Bool) → cond b None (option_map (entry_of source begin end) part) ≡ Some e → source ≡ e.source
from_user source begin end e part true is = absurd (let h : None ≡ Some e = is in cc)
from_user source begin end e part false is = from_part source begin end e part is

module _ (d : DataLists) (rows : List UserRow) (key bounds : List ℕ) where
  there : (source : Source) (e : Entry) → source ≡ e.source → IsThere d rows source → IsThere d rows e.source
  there source e same is = subst (λ (s : Source). IsThere d rows s) same is

  there_user : (begin end : ℕ) (e : Entry) → Among e (user_entries d rows key begin end) → IsThere d rows e.source
  unfolding user_entries
  there_user begin end e h =
      let r = from_filter_map (user_entry d rows begin end) e (user_rows_with rows (slice_range key begin end)) h in
      let part = (user_row_at rows r.0).pos in
      let inside = place_is_inside (is_text (slice_range key begin end)) _ r.0 r.1 in
      let below : r.0 < length rows = omega (arith, inside, length-map rows (λ (row : UserRow). row.reading)) in
      there (User r.0) e (from_user (User r.0) begin end e (pos_of d part) (is_text suppressed part) r.2) below

  there_word : (begin end : ℕ) (e : Entry) → Among e (word_entries d key begin end) → IsThere d rows e.source
  unfolding word_entries
  there_word begin end e h =
      let r = from_map (word_entry d begin end) e (rows_with (readings d) (slice_range key begin end)) h in
      let inside = place_is_inside (is_text (slice_range key begin end)) (readings d) r.0 r.1 in
      let below : r.0 < length d.words = omega (arith, inside, length-map d.words (λ (row : WordRow). row.reading)) in
      there (Word r.0) e (ap (λ (x : Entry). x.source) r.2) below

  there_char : (begin end : ℕ) (e : Entry) → Among e (char_entries d key begin end) → IsThere d rows e.source
  unfolding char_entries
  there_char begin end e h =
      there Char e (ap (λ (x : Entry). x.source) (from_cond (eqb end (begin + 1)) (node d key Char begin end) e h)) tt

  there_run : (begin end : ℕ) (e : Entry) → Among e (run_entries d key begin end) → IsThere d rows e.source
  unfolding run_entries
  there_run begin end e h =
      there Run e (ap (λ (x : Entry). x.source) (from_cond (is_run key begin end) (node d key Run begin end) e h)) tt

  there_groups : (begin end : ℕ) (e : Entry) → Among e (user_entries d rows key begin end ++ (word_entries d key begin end ++ (char_entries d key begin end ++ run_entries d key begin end))) → IsThere d rows e.source
  there_groups begin end e h =
      let users = user_entries d rows key begin end in
      let words = word_entries d key begin end in
      let chars = char_entries d key begin end in
      let runs = run_entries d key begin end in
      elim (Among-append_cases e users (words ++ (chars ++ runs)) h) [ inl a ↦ there_user begin end e a | inr b ↦ elim (Among-append_cases e words (chars ++ runs) b) [ inl a ↦ there_word begin end e a | inr b ↦ elim (Among-append_cases e chars runs b) [ inl a ↦ there_char begin end e a | inr b ↦ there_run begin end e b ] ] ]

  there_uncut : (begin end : ℕ) (e : Entry) (cut : Bool) → Among e (cond cut [] (user_entries d rows key begin end ++ (word_entries d key begin end ++ (char_entries d key begin end ++ run_entries d key begin end)))) → IsThere d rows e.source
  there_uncut begin end e true h = absurd h
  there_uncut begin end e false h = there_groups begin end e h

  -- the row of each entry of a key is there
  pub IsThere-entries : (e : Entry) → Among e (entries d rows key bounds) → IsThere d rows e.source
  unfolding entries entries_from entries_in
  IsThere-entries e h =
      let first = from_flat_map (entries_from d rows key bounds) e (range_with_len 0 (length key)) h in
      let second = from_flat_map (entries_in d rows key bounds first.0) e _ first.2 in
      there_uncut first.0 second.0 e (is_cut bounds first.0 second.0) second.2

among_made : (d : DataLists) (rows : List UserRow) (l : Lattice) (ordinal : ℕ) → IsLatticeOf d rows l → ordinal < length l.entries → Among (entry l.entries ordinal) (entries d rows l.key l.bounds)
among_made d rows l ordinal made inside =
    subst (λ (es : List Entry). Among (entry l.entries ordinal) es) made.entries_are (Among-get_or l.entries ordinal no_entry inside)

-- an entry of a lattice that was built is one
pub IsEntry-made : (d : DataLists) (rows : List UserRow) (l : Lattice) (ordinal : ℕ) → AreDataSound d → IsLatticeOf d rows l → ordinal < length l.entries → IsEntry d l.key l.bounds (entry l.entries ordinal)
IsEntry-made d rows l ordinal sound made inside =
    IsEntry-entries d sound rows l.key l.bounds (entry l.entries ordinal) (among_made d rows l ordinal made inside)

-- and its row is there
pub IsThere-made : (d : DataLists) (rows : List UserRow) (l : Lattice) (ordinal : ℕ) → IsLatticeOf d rows l → ordinal < length l.entries → IsThere d rows (entry l.entries ordinal).source
IsThere-made d rows l ordinal made inside =
    IsThere-entries d rows l.key l.bounds (entry l.entries ordinal) (among_made d rows l ordinal made inside)

-- entries end inside the key
pub ends_inside : (d : DataLists) (rows : List UserRow) (key bounds : List ℕ) (es : List Entry) → AreDataSound d → es ≡ entries d rows key bounds → All (λ (e : Entry). e.end ≤ length key) es
ends_inside d rows key bounds es sound made =
    All-from_among (λ (e : Entry). e.end ≤ length key) es inside
  where
    inside : (e : Entry) → Among e es → e.end ≤ length key
    inside e h =
        (IsEntry-entries d sound rows key bounds e (subst (λ (xs : List Entry). Among e xs) made h)).inside

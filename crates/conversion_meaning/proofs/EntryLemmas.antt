-- The entries of a key make a well-formed lattice.
use Rattle.std.proofs.Common.{◌≡◌, refl, sym, ap, ◌∙◌, subst, ℕ, ◌+◌, ◌-◌, ◌<◌, Bool, true, false, cond, ◌&&◌, eqb, inl, inr, List, [], ◌∷◌, ◌++◌, Option, Some, None, length, get_or, arith, eq-eqb}
use Rattle.std.specs.Prelude.{ℤ, nat_lt, slice_range, IfSome}
use Rattle.std.specs.List.{All, AllPairs, list_any, range_with_len}
use Rattle.std.specs.Option.{option_map}
use Rattle.std.proofs.lemmas.Bool.Decides.{nat_tests}
use Rattle.std.proofs.lemmas.List.{length-map}
use Rattle.mz_base.specs.Data.{DataLists, AreDataSound, IsCost, IsNode, is_text, places, pos_of, readings, rows_with, unknown_of}
use Rattle.mz_base.specs.Users.{user_row_at, user_rows_with}
use Rattle.mz_base.specs.declared.data.WordRow.{WordRow}
use Rattle.mz_base.specs.declared.lattice.Entry.{Entry}
use Rattle.mz_base.specs.declared.lattice.Lattice.{Lattice}
use Rattle.mz_base.specs.declared.lattice.Source.{Source}
use Rattle.mz_base.specs.declared.lattice.Source.TheVariants.{User, Char, Run}
use Rattle.mz_base.specs.declared.user.UserRow.{UserRow}
use Rattle.conversion_meaning.specs.Entries.{suppressed, entry_of, user_entry, word_entry, class_at, node, is_run, user_entries, word_entries, char_entries, run_entries, is_cut, entries_in, entries_from, entries}
use Rattle.conversion_meaning.specs.Lattices.{IsEntry, AreInOrder, HasCharacter, IsLatticeOf, IsWellFormed, no_entry}
use Rattle.conversion_meaning.proofs.Lists.{Among, Among-append_left, Among-append_right, Among-append_cases, from_map, from_filter, from_filter_map, Among-flat_map, from_flat_map, Among-range, from_range, place_of, All-from_among, Rises, Rises-all, Rises-flat_map, AllPairs-from_rises}

-- an entry of this range, with ids that there are and a cost
pub record IsOf (ids begin end : ℕ) (e : Entry) : Type 0 where
  pub begins : e.begin ≡ begin
  pub ends : e.end ≡ end
  pub left : e.lid < ids
  pub right : e.rid < ids
  pub cost : IsCost e.cost

IsOf-entry_of : (ids begin end : ℕ) (source : Source) (n : ℕ × ℤ) → IsNode ids n → IsOf ids begin end (entry_of source begin end n)
IsOf-entry_of ids begin end source n sound =
    record { begins = refl; ends = refl; left = sound.id; right = sound.id; cost = sound.cost }

-- the list has just one element, or none
from_cond : {X : Type 0} (b : Bool) (x y : X) → Among y (cond b (x ∷ []) []) → x ≡ y
from_cond true x y (inl same) = same
from_cond true x y (inr none) = absurd none
from_cond false x y none = absurd none

module _ (d : DataLists) (sound : AreDataSound d) (rows : List UserRow) (key bounds : List ℕ) where
  from_part : (begin end place : ℕ) (e : Entry) (part : Option (ℕ × ℤ)) → IfSome part (IsNode d.ids) → option_map (entry_of (User place) begin end) part ≡ Some e → IsOf d.ids begin end e
  from_part begin end place e None node is = absurd (let h : None ≡ Some e = is in cc)
  from_part begin end place e (Some n) node is =
      let same : entry_of (User place) begin end n ≡ e = cc in
      subst (λ x. IsOf d.ids begin end x) same (IsOf-entry_of d.ids begin end (User place) n node)

  from_user : (begin end place : ℕ) (e : Entry) (b : Bool) → cond b None (option_map (entry_of (User place) begin end) (pos_of d (user_row_at rows place).pos)) ≡ Some e → IsOf d.ids begin end e
  from_user begin end place e true is = absurd (let h : None ≡ Some e = is in cc)
  from_user begin end place e false is =
      from_part begin end place e (pos_of d (user_row_at rows place).pos) (sound.parts (user_row_at rows place).pos) is

  from_user_entries : (begin end : ℕ) (e : Entry) → Among e (user_entries d rows key begin end) → IsOf d.ids begin end e
  unfolding user_entries
  from_user_entries begin end e h =
      let r = from_filter_map (user_entry d rows begin end) e (user_rows_with rows (slice_range key begin end)) h in
      from_user begin end r.0 e (is_text suppressed (user_row_at rows r.0).pos) r.2

  from_word_entries : (begin end : ℕ) (e : Entry) → Among e (word_entries d key begin end) → IsOf d.ids begin end e
  unfolding word_entries places
  from_word_entries begin end e h =
      let r = from_map (word_entry d begin end) e (rows_with (readings d) (slice_range key begin end)) h in
      let kept = from_filter (λ i. is_text (slice_range key begin end) (get_or (readings d) i [])) r.0 (range_with_len 0 (length (readings d))) r.1 in
      let inside = from_range 0 (length (readings d)) r.0 kept.0 in
      let there : r.0 < length d.words = omega (arith, inside.1, length-map d.words (λ (row : WordRow). row.reading)) in
      let word = sound.words r.0 there in
      subst (λ x. IsOf d.ids begin end x) r.2 (record { begins = refl; ends = refl; left = word.left; right = word.right; cost = word.cost })

  from_char_entries : (begin end : ℕ) (e : Entry) → Among e (char_entries d key begin end) → IsOf d.ids begin end e
  unfolding char_entries
  from_char_entries begin end e h =
      let same = from_cond (eqb end (begin + 1)) (node d key Char begin end) e h in
      subst (λ x. IsOf d.ids begin end x) same (IsOf-entry_of d.ids begin end Char (unknown_of d (class_at key begin)) (sound.classes (class_at key begin)))

  from_run_entries : (begin end : ℕ) (e : Entry) → Among e (run_entries d key begin end) → IsOf d.ids begin end e
  unfolding run_entries
  from_run_entries begin end e h =
      let same = from_cond (is_run key begin end) (node d key Run begin end) e h in
      subst (λ x. IsOf d.ids begin end x) same (IsOf-entry_of d.ids begin end Run (unknown_of d (class_at key begin)) (sound.classes (class_at key begin)))

  from_groups : (begin end : ℕ) (e : Entry) → Among e (user_entries d rows key begin end ++ (word_entries d key begin end ++ (char_entries d key begin end ++ run_entries d key begin end))) → IsOf d.ids begin end e
  from_groups begin end e h =
      let users = user_entries d rows key begin end in
      let words = word_entries d key begin end in
      let chars = char_entries d key begin end in
      let runs = run_entries d key begin end in
      elim (Among-append_cases e users (words ++ (chars ++ runs)) h) [ inl a ↦ from_user_entries begin end e a | inr b ↦ elim (Among-append_cases e words (chars ++ runs) b) [ inl a ↦ from_word_entries begin end e a | inr b ↦ elim (Among-append_cases e chars runs b) [ inl a ↦ from_char_entries begin end e a | inr b ↦ from_run_entries begin end e b ] ] ]

  from_uncut : (begin end : ℕ) (e : Entry) (cut : Bool) → is_cut bounds begin end ≡ cut → Among e (cond cut [] (user_entries d rows key begin end ++ (word_entries d key begin end ++ (char_entries d key begin end ++ run_entries d key begin end)))) → IsOf d.ids begin end e × (is_cut bounds begin end ≡ false)
  from_uncut begin end e true is h = absurd h
  from_uncut begin end e false is h = (from_groups begin end e h, is)

  -- what the entries of a range are
  pub from_entries_in : (begin end : ℕ) (e : Entry) → Among e (entries_in d rows key bounds begin end) → IsOf d.ids begin end e × (is_cut bounds begin end ≡ false)
  unfolding entries_in
  from_entries_in begin end e h = from_uncut begin end e (is_cut bounds begin end) refl h

  -- the entries from here begin here, and end inside the key
  pub from_entries_from : (begin : ℕ) (e : Entry) → Among e (entries_from d rows key bounds begin) → (end : ℕ) × (begin < end) × (end < begin + 1 + (length key - begin)) × IsOf d.ids begin end e × (is_cut bounds begin end ≡ false)
  unfolding entries_from
  from_entries_from begin e h =
      let r = from_flat_map (entries_in d rows key bounds begin) e (range_with_len (begin + 1) (length key - begin)) h in
      let inside = from_range (begin + 1) (length key - begin) r.0 r.1 in
      let is = from_entries_in begin r.0 e r.2 in
      (r.0, omega arith, omega (arith, inside.1), is.0, is.1)

  -- each entry of a key is one
  pub IsEntry-entries : (e : Entry) → Among e (entries d rows key bounds) → IsEntry d key bounds e
  unfolding entries
  IsEntry-entries e h =
      let r = from_flat_map (entries_from d rows key bounds) e (range_with_len 0 (length key)) h in
      let first = from_range 0 (length key) r.0 r.1 in
      let q = from_entries_from r.0 e r.2 in
      let of = q.3 in
      let uncut : is_cut bounds e.begin e.end ≡ false = ap (λ (x : ℕ). is_cut bounds x e.end) of.begins ∙ (ap (λ (x : ℕ). is_cut bounds r.0 x) of.ends ∙ q.4) in
      record { forward = omega (arith, of.begins, of.ends, q.1); inside = omega (arith, of.ends, q.2, first.1); left = of.left; right = of.right; cost = of.cost; uncut = uncut }

  order_in : (begin end : ℕ) (x y : Entry) → Among x (entries_in d rows key bounds begin end) → Among y (entries_in d rows key bounds begin end) → AreInOrder x y
  order_in begin end x y h k =
      let a = (from_entries_in begin end x h).0 in
      let b = (from_entries_in begin end y k).0 in
      record { begins = omega (arith, a.begins, b.begins); ends = λ same. omega (arith, a.ends, b.ends) }

  order_of_ends : (begin i j : ℕ) (x y : Entry) → i < j → Among x (entries_in d rows key bounds begin i) → Among y (entries_in d rows key bounds begin j) → AreInOrder x y
  order_of_ends begin i j x y below h k =
      let a = (from_entries_in begin i x h).0 in
      let b = (from_entries_in begin j y k).0 in
      record { begins = omega (arith, a.begins, b.begins); ends = λ same. omega (arith, a.ends, b.ends) }

  order_of_begins : (i j : ℕ) (x y : Entry) → i < j → Among x (entries_from d rows key bounds i) → Among y (entries_from d rows key bounds j) → AreInOrder x y
  order_of_begins i j x y below h k =
      let a = (from_entries_from i x h).3 in
      let b = (from_entries_from j y k).3 in
      record { begins = omega (arith, a.begins, b.begins); ends = λ same. absurd (omega (arith, a.begins, b.begins)) }

  Rises-entries_from : (begin : ℕ) → Rises AreInOrder (entries_from d rows key bounds begin)
  unfolding entries_from
  Rises-entries_from begin =
      Rises-flat_map AreInOrder (entries_in d rows key bounds begin) (begin + 1) (length key - begin) (λ i low high. Rises-all AreInOrder (entries_in d rows key bounds begin i) (order_in begin i)) (λ i j x y low below high. order_of_ends begin i j x y below)

  -- the entries of a key stand by begin, then by end
  pub Rises-entries : Rises AreInOrder (entries d rows key bounds)
  unfolding entries
  Rises-entries =
      Rises-flat_map AreInOrder (entries_from d rows key bounds) 0 (length key) (λ i low high. Rises-entries_from i) (λ i j x y low below high. order_of_begins i j x y below)

  -- no bound stands inside one character
  uncut_character : (bs : List ℕ) (position : ℕ) → list_any (λ bound. nat_lt position bound && nat_lt bound (position + 1)) bs ≡ false
  uncut_character [] position = refl
  uncut_character (b ∷ bs) position =
      let rest = uncut_character bs position in
      let here : (nat_lt position b && nat_lt b (position + 1)) ≡ false = grind (arith, nat_tests) in
      rw here rest

  character_in : (position : ℕ) → Among (node d key Char position (position + 1)) (entries_in d rows key bounds position (position + 1))
  unfolding entries_in char_entries
  character_in position =
      let one = node d key Char position (position + 1) in
      let users = user_entries d rows key position (position + 1) in
      let words = word_entries d key position (position + 1) in
      let runs = run_entries d key position (position + 1) in
      rw (uncut_character bounds position) (Among-append_right one users (words ++ (char_entries d key position (position + 1) ++ runs)) (Among-append_right one words (char_entries d key position (position + 1) ++ runs) (Among-append_left one (char_entries d key position (position + 1)) runs (rw (eq-eqb (position + 1) (position + 1) refl) (inl refl)))))

  character_among : (position : ℕ) → position < length key → Among (node d key Char position (position + 1)) (entries d rows key bounds)
  unfolding entries entries_from
  character_among position inside =
      let one = node d key Char position (position + 1) in
      Among-flat_map (entries_from d rows key bounds) position one (range_with_len 0 (length key)) (Among-range 0 (length key) position (omega arith) (omega arith)) (Among-flat_map (entries_in d rows key bounds position) (position + 1) one (range_with_len (position + 1) (length key - position)) (Among-range (position + 1) (length key - position) (position + 1) (omega arith) (omega arith)) (character_in position))

  -- each character of a key has its entry
  pub HasCharacter-entries : (position : ℕ) → position < length key → HasCharacter (entries d rows key bounds) position
  HasCharacter-entries position inside =
      let r = place_of (node d key Char position (position + 1)) (entries d rows key bounds) (character_among position inside) in
      let is = r.2 no_entry in
      (r.0, r.1, ap (λ (e : Entry). e.begin) is, ap (λ (e : Entry). e.end) is)

-- the entries of a key make a well-formed lattice
pub IsWellFormed-from_entries : (d : DataLists) (rows : List UserRow) (l : Lattice) → AreDataSound d → IsLatticeOf d rows l → IsWellFormed d l
IsWellFormed-from_entries d rows l sound is =
    let es = entries d rows l.key l.bounds in
    record {
      key = is.key;
      bounds = is.bounds;
      entries = subst (λ (xs : List Entry). All (IsEntry d l.key l.bounds) xs) (sym is.entries_are) (All-from_among (IsEntry d l.key l.bounds) es (IsEntry-entries d sound rows l.key l.bounds));
      rising = subst (λ (xs : List Entry). AllPairs AreInOrder xs) (sym is.entries_are) (AllPairs-from_rises AreInOrder es (Rises-entries d sound rows l.key l.bounds));
      characters = λ position inside. subst (λ (xs : List Entry). HasCharacter xs position) (sym is.entries_are) (HasCharacter-entries d sound rows l.key l.bounds position inside);
      by_end = is.by_end;
    }

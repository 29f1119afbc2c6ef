-- What a put makes of the pairs.
use Rattle.std.proofs.Common.{◌≡◌, ℕ, ◌+◌, ◌-◌, ◌≤◌, Bool, true, false, not, List, [], ◌∷◌, ◌++◌, filter, length, map, reverse, take, Option, Some, None, Decides, refl, ap, sym, ◌∙◌, inl, inr, arith}
use Rattle.std.specs.Prelude.{◌&&◌}
use Rattle.std.specs.List.{AllByRecursion, IsDistinct}
use Rattle.std.specs.Map.{keys_of, lookup_entry, remove_entry}
use Rattle.std.specs.Option.{option_map_or}
use Rattle.std.specs.Str.{bytes_eq}
use Rattle.std.proofs.lemmas.Bool.{cases_Bool, false≢true}
use Rattle.std.proofs.lemmas.Bool.Decides.{same_from_decides}
use Rattle.std.proofs.lemmas.List.{length-map, map-append, reverse-append, take-map, take_all}
use Rattle.std.proofs.lemmas.Slice.Eq.{bytes_eq-Decides}
use Rattle.lru.specs.LruCache.{LruCache, IsValid, put_entries}
use Rattle.mz_base.specs.declared.lattice.Pair.{Pair}
use Rattle.session_meaning.specs.History.{is_pair, learn, with_learned}
use Rattle.session_meaning.specs.HistoryLaws.{IsHistory}
use Rattle.session_meaning.specs.declared.history.TheConstants.{MOST_PAIRS}
use Rattle.session_meaning.proofs.HistoryLemmas.{filter-apart}
use Rattle.history.specs.Pairs.{pair_of, pair_of_entry, pair_with, pairs_of}
use Rattle.history.specs.declared.kept.Kept.{Kept}

-- ---- Equal pairs

bytes_eq-turned : (bs cs : List ℕ) → bytes_eq bs cs ≡ bytes_eq cs bs
bytes_eq-turned bs cs =
    let one = bytes_eq-Decides cs bs in
    let turned : Decides (bytes_eq cs bs) (bs ≡ cs) = (λ is. sym (one.0 is), λ same. one.1 (sym same)) in
    same_from_decides _ _ (bytes_eq-Decides bs cs) turned

-- the keys of the cache are compared as pairs are
pub kept-is_pair : (kept other : Kept) → (bytes_eq kept.key.items other.key.items && bytes_eq kept.value.items other.value.items) ≡ is_pair (pair_of kept) (pair_of other)
kept-is_pair kept other =
    ap (λ b. b && bytes_eq kept.value.items other.value.items) (bytes_eq-turned kept.key.items other.key.items)
    ∙ ap (λ b. bytes_eq other.key.items kept.key.items && b) (bytes_eq-turned kept.value.items other.value.items)

both : (a b : Bool) → (a && b) ≡ true → (a ≡ true) × (b ≡ true)
both true b is = (refl, is)
both false b is = absurd (false≢true is)

is_pair-same : (pair other : Pair) → is_pair pair other ≡ true → pair ≡ other
is_pair-same pair other is =
    let parts = both (bytes_eq other.key pair.key) (bytes_eq other.value pair.value) is in
    let key : pair.key ≡ other.key = sym ((bytes_eq-Decides other.key pair.key).0 parts.0) in
    let value : pair.value ≡ other.value = sym ((bytes_eq-Decides other.value pair.value).0 parts.1) in
    ap (λ key. pair_with key pair.value) key ∙ ap (λ value. pair_with other.key value) value

-- ---- A put

module _ (eq : Kept → Kept → Bool) (exact : (kept other : Kept) → eq kept other ≡ is_pair (pair_of kept) (pair_of other)) where
  apart-pairs : (kept : Kept) (entries : List (Kept × Unit {0})) → AllByRecursion (λ other. eq kept other ≡ false) (keys_of entries) → AllByRecursion (λ other. is_pair (pair_of kept) other ≡ false) (pairs_of entries)
  apart-pairs kept [] apart = tt
  apart-pairs kept (entry ∷ entries) apart = (sym (exact kept entry.0) ∙ apart.0, apart-pairs kept entries apart.1)

  distinct-pairs : (entries : List (Kept × Unit {0})) → IsDistinct eq (keys_of entries) → IsDistinct is_pair (pairs_of entries)
  unfolding IsDistinct
  distinct-pairs [] distinct = tt
  distinct-pairs (entry ∷ entries) distinct =
      (apart-pairs entry.0 entries distinct.0, distinct-pairs entries distinct.1)

  -- what a cache of the most pairs has is a history
  pub cache-history : (cache : LruCache Kept (Unit {0})) → IsValid eq cache → cache.cap ≡ MOST_PAIRS → IsHistory (pairs_of cache.entries)
  cache-history cache valid capped = record {
    distinct = distinct-pairs cache.entries valid.0;
    few = omega (arith, valid.1, capped, length-map cache.entries pair_of_entry);
  }

  module _ (kept : Kept) where
    none-equal : (entries : List (Kept × Unit {0})) → lookup_entry (eq kept) entries ≡ None → AllByRecursion (λ other. is_pair (pair_of kept) other ≡ false) (pairs_of entries)
    none-equal [] none = tt
    none-equal (entry ∷ entries) none = elim (cases_Bool (eq kept entry.0)) [
      | inl is ↦ absurd (let no : Some entry ≡ None = rw is at none in cc)
      | inr other ↦ (sym (exact kept entry.0) ∙ other, none-equal entries (rw other at none))
    ]

    -- what is apart from an equal key is apart from this one
    equal-apart : (equal : Kept) → pair_of kept ≡ pair_of equal → (entries : List (Kept × Unit {0})) → AllByRecursion (λ other. eq equal other ≡ false) (keys_of entries) → AllByRecursion (λ other. is_pair (pair_of kept) other ≡ false) (pairs_of entries)
    equal-apart equal same [] apart = tt
    equal-apart equal same (entry ∷ entries) apart =
        (ap (λ (pair : Pair). is_pair pair (pair_of entry.0)) same ∙ (sym (exact equal entry.0) ∙ apart.0), equal-apart equal same entries apart.1)

    same-pair : (other : Kept) → eq kept other ≡ true → pair_of kept ≡ pair_of other
    same-pair other is = is_pair-same (pair_of kept) (pair_of other) (sym (exact kept other) ∙ is)

    -- the equal pair goes, and no other
    record IsRemoved (entries : List (Kept × Unit {0})) (found : Kept × Unit {0}) : Type 0 where
      pairs : pairs_of (remove_entry (eq kept) entries) ≡ filter (λ other. not (is_pair (pair_of kept) other)) (pairs_of entries)
      same : pair_of kept ≡ pair_of found.0
      fewer : length (remove_entry (eq kept) entries) + 1 ≡ length entries

    removed : (entries : List (Kept × Unit {0})) (found : Kept × Unit {0}) → IsDistinct eq (keys_of entries) → lookup_entry (eq kept) entries ≡ Some found → IsRemoved entries found
    unfolding IsDistinct
    removed [] found distinct is = absurd cc
    removed (entry ∷ entries) found distinct is = elim (cases_Bool (eq kept entry.0)) [
      | inl equal ↦
          let this : Some entry ≡ Some found = rw equal at is in
          let first : entry ≡ found = cc in
          let pair = sym (exact kept entry.0) ∙ equal in
          record {
            pairs = rw (equal, pair) (sym (filter-apart (pair_of kept) (pairs_of entries) (equal-apart entry.0 (same-pair entry.0 equal) entries distinct.0)));
            same = same-pair entry.0 equal ∙ ap (λ (e : Kept × Unit {0}). pair_of e.0) first;
            fewer = rw equal (omega arith);
          }
      | inr other ↦
          let pair = sym (exact kept entry.0) ∙ other in
          let rest = removed entries found distinct.1 (rw other at is) in
          record {
            pairs = rw (other, pair) (ap (λ (pairs : List Pair). pair_of entry.0 ∷ pairs) rest.pairs);
            same = rest.same;
            fewer = rw other (omega (arith, rest.fewer));
          }
    ]

    put-cases : (cache : LruCache Kept (Unit {0})) (found : Option (Kept × Unit {0})) → IsValid eq cache → cache.cap ≡ MOST_PAIRS → lookup_entry (eq kept) cache.entries ≡ found → pairs_of (option_map_or (λ e. (e.0, tt) ∷ remove_entry (eq kept) cache.entries) found ((kept, tt) ∷ take (cache.cap - 1) cache.entries)) ≡ with_learned (pairs_of cache.entries) (pair_of kept)
    put-cases cache None valid capped is =
        ap (λ n. pair_of kept ∷ pairs_of (take (n - 1) cache.entries)) capped
        ∙ (ap (λ (pairs : List Pair). pair_of kept ∷ pairs) (sym (take-map pair_of_entry (MOST_PAIRS - 1) cache.entries))
        ∙ ap (λ (pairs : List Pair). take MOST_PAIRS (pair_of kept ∷ pairs)) (sym (filter-apart (pair_of kept) (pairs_of cache.entries) (none-equal cache.entries is))))
    put-cases cache (Some found) valid capped is =
        let gone = removed cache.entries found valid.0 is in
        let others = filter (λ other. not (is_pair (pair_of kept) other)) (pairs_of cache.entries) in
        let long = ap (λ (pairs : List Pair). length pairs) gone.pairs in
        let few : length (pair_of kept ∷ others) ≤ MOST_PAIRS = omega (arith, long, length-map (remove_entry (eq kept) cache.entries) pair_of_entry, gone.fewer, valid.1, capped) in
        ap (λ (pair : Pair). pair ∷ pairs_of (remove_entry (eq kept) cache.entries)) (sym gone.same)
        ∙ (ap (λ (pairs : List Pair). pair_of kept ∷ pairs) gone.pairs ∙ sym (take_all MOST_PAIRS (pair_of kept ∷ others) few))

    -- a put learns the pair
    pub put-learned : (cache : LruCache Kept (Unit {0})) → IsValid eq cache → cache.cap ≡ MOST_PAIRS → pairs_of (put_entries eq cache kept tt) ≡ with_learned (pairs_of cache.entries) (pair_of kept)
    put-learned cache valid capped =
        put-cases cache (lookup_entry (eq kept) cache.entries) valid capped refl

-- ---- A copy

-- the last of the entries that are left is learned
pub copied-more : (before after whole : List Pair) (entries front : List (Kept × Unit {0})) (entry : Kept × Unit {0}) → entries ≡ front ++ entry ∷ [] → after ≡ with_learned before (pair_of_entry entry) → learn before (reverse (pairs_of entries)) ≡ whole → learn after (reverse (pairs_of front)) ≡ whole
copied-more before after whole entries front entry split more is =
    let pairs : pairs_of entries ≡ pairs_of front ++ pair_of_entry entry ∷ [] = ap (λ (entries : List (Kept × Unit {0})). pairs_of entries) split ∙ map-append pair_of_entry front (entry ∷ []) in
    let turned : reverse (pairs_of entries) ≡ pair_of_entry entry ∷ reverse (pairs_of front) = ap (λ (pairs : List Pair). reverse pairs) pairs ∙ reverse-append (pairs_of front) (pair_of_entry entry ∷ []) in
    ap (λ (pairs : List Pair). learn pairs (reverse (pairs_of front))) more
    ∙ (ap (λ (pairs : List Pair). learn before pairs) (sym turned) ∙ is)

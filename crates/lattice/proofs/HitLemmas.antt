-- Hits by end: those of one end stand first among those that are left.
use Rattle.std.proofs.Common.{◌≡◌, refl, sym, ap, ◌∙◌, ℕ, ◌+◌, ◌-◌, ◌<◌, Bool, true, false, eqb, inl, inr, List, [], ◌∷◌, ◌++◌, map, length, take, drop, arith, eq-eqb}
use Rattle.std.specs.Prelude.{slice_range}
use Rattle.std.specs.List.{flat_map, prefix_len, range_with_len, take_while}
use Rattle.std.proofs.lemmas.Bool.Decides.{nat_tests}
use Rattle.std.proofs.lemmas.List.Folds.{length-prefix_len}
use Rattle.mz_base.specs.Data.{DataLists, hits_to, readings, rows_with}
use Rattle.mz_base.specs.declared.data.Hit.{Hit}
use Rattle.conversion_meaning.specs.Entries.{word_entries, word_entry}
use Rattle.conversion_meaning.proofs.Lists.{Among, from_flat_map, from_map, from_range}
use Rattle.conversion_meaning.proofs.RangeLemmas.{range_step}

-- all of the first list pass, and none of the second
prefix_len-append : {X : Type 0} (p : X → Bool) (xs ys : List X) → ((x : X) → Among x xs → p x ≡ true) → ((y : X) → Among y ys → p y ≡ false) → prefix_len p (xs ++ ys) ≡ length xs
prefix_len-append p [] [] pass stop = refl
prefix_len-append p [] (y ∷ ys) pass stop = let here = stop y (inl refl) in rw here refl
prefix_len-append p (x ∷ xs) ys pass stop =
    let here = pass x (inl refl) in
    let rest = prefix_len-append p xs ys (λ z h. pass z (inr h)) stop in
    rw here (omega (arith, rest))

take-front : {X : Type 0} (xs ys : List X) → take (length xs) (xs ++ ys) ≡ xs
take-front [] ys = refl
take-front (x ∷ xs) ys = ap (λ zs. x ∷ zs) (take-front xs ys)

drop-front : {X : Type 0} (xs ys : List X) → drop (length xs) (xs ++ ys) ≡ ys
drop-front [] ys = refl
drop-front (x ∷ xs) ys = drop-front xs ys

-- the hit has this end
abbrev pub ends_at : ℕ → Hit → Bool
ends_at end hit = eqb hit.end end

module _ (texts : List (List ℕ)) (key : List ℕ) (begin : ℕ) where
  -- the hits of the ends that are left
  abbrev pub hits_from : ℕ → ℕ → List Hit
  hits_from end limit = flat_map (hits_to texts key begin) (range_with_len end (limit - end))

  hits_to-end : (end : ℕ) (hit : Hit) → Among hit (hits_to texts key begin end) → hit.end ≡ end
  hits_to-end end hit h =
      let r = from_map (λ row. record { end = end; row = row }) hit (rows_with texts (slice_range key begin end)) h in
      ap (λ (x : Hit). x.end) (sym r.2)

  passes : (end : ℕ) (hit : Hit) → Among hit (hits_to texts key begin end) → ends_at end hit ≡ true
  passes end hit h = eq-eqb hit.end end (hits_to-end end hit h)

  stops : (end limit : ℕ) (hit : Hit) → Among hit (hits_from (end + 1) limit) → ends_at end hit ≡ false
  stops end limit hit h =
      let r = from_flat_map (hits_to texts key begin) hit (range_with_len (end + 1) (limit - (end + 1))) h in
      let inside = from_range (end + 1) (limit - (end + 1)) r.0 r.1 in
      let is = hits_to-end r.0 hit r.2 in
      let later : end < hit.end = omega (arith, inside.0, is) in
      grind (arith, nat_tests)

  parted : (end limit : ℕ) → end < limit → hits_from end limit ≡ hits_to texts key begin end ++ hits_from (end + 1) limit
  parted end limit below = ap (flat_map (hits_to texts key begin)) (range_step end limit below)

  -- how many of what is left have the first end
  counted : (end limit : ℕ) (left : List Hit) → end < limit → left ≡ hits_from end limit → prefix_len (ends_at end) left ≡ length (hits_to texts key begin end)
  counted end limit left below is =
      ap (prefix_len (ends_at end)) (is ∙ parted end limit below) ∙ prefix_len-append (ends_at end) (hits_to texts key begin end) (hits_from (end + 1) limit) (passes end) (stops end limit)

  pub count_is : (end limit : ℕ) (left : List Hit) → end < limit → left ≡ hits_from end limit → length (take_while (ends_at end) left) ≡ length (hits_to texts key begin end)
  count_is end limit left below is =
      length-prefix_len (ends_at end) left ∙ counted end limit left below is

  -- they are the hits of this end
  pub first_hits : (end limit n : ℕ) (left : List Hit) → end < limit → left ≡ hits_from end limit → n ≡ length (take_while (ends_at end) left) → take n left ≡ hits_to texts key begin end
  first_hits end limit n left below is count =
      let e = count ∙ count_is end limit left below is in
      ap (take n) (is ∙ parted end limit below) ∙ ap (λ k. take k (hits_to texts key begin end ++ hits_from (end + 1) limit)) e ∙ take-front (hits_to texts key begin end) (hits_from (end + 1) limit)

  -- and the others are left
  pub later_hits : (end limit n : ℕ) (left : List Hit) → end < limit → left ≡ hits_from end limit → n ≡ length (take_while (ends_at end) left) → drop n left ≡ hits_from (end + 1) limit
  later_hits end limit n left below is count =
      let e = count ∙ count_is end limit left below is in
      ap (drop n) (is ∙ parted end limit below) ∙ ap (λ k. drop k (hits_to texts key begin end ++ hits_from (end + 1) limit)) e ∙ drop-front (hits_to texts key begin end) (hits_from (end + 1) limit)

map-map : {X Y Z : Type 0} (f : X → Y) (g : Y → Z) (xs : List X) → map g (map f xs) ≡ map (λ x. g (f x)) xs
map-map f g [] = refl
map-map f g (x ∷ xs) = ap (λ ys. g (f x) ∷ ys) (map-map f g xs)

-- the entries of the hits of an end are the word entries
pub word_entries-hits : (d : DataLists) (key : List ℕ) (begin end : ℕ) (hits : List Hit) → hits ≡ hits_to (readings d) key begin end → map (λ (hit : Hit). word_entry d begin hit.end hit.row) hits ≡ word_entries d key begin end
unfolding word_entries
word_entries-hits d key begin end hits is =
    ap (map (λ (hit : Hit). word_entry d begin hit.end hit.row)) is ∙ map-map (λ row. record { end = end; row = row }) (λ (hit : Hit). word_entry d begin hit.end hit.row) (rows_with (readings d) (slice_range key begin end))

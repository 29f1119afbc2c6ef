-- The parts between the cuts of a lattice's path: they are paths, together all of it, and spans.
use Rattle.std.proofs.Common.{◌≡◌, refl, sym, ◌∙◌, subst, ℕ, ◌<◌, ◌≤◌, Bool, true, false, cond, ◌⊎◌, inl, inr, List, [], ◌∷◌, Some, length, arith}
use Rattle.std.specs.Prelude.{◌&&◌, ◌==◌, filter, find, nat_lt}
use Rattle.std.specs.List.{All, flat_map, list_any}
use Rattle.std.specs.Option.{option_map_or}
use Rattle.std.proofs.lemmas.Bool.Decides.{nat_tests}
use Rattle.std.proofs.lemmas.List.Elements.{All-cons}
use Rattle.std.proofs.lemmas.List.Folds.{list_any_at}
use Rattle.mz_base.specs.Data.{DataLists}
use Rattle.mz_base.specs.declared.lattice.Entry.{Entry}
use Rattle.mz_base.specs.declared.lattice.Lattice.{Lattice}
use Rattle.conversion_meaning.specs.Lattices.{IsWellFormed, entry, no_entry}
use Rattle.conversion_meaning.specs.Paths.{IsPath, IsPathOver, IsSpan, whole}
use Rattle.conversion_meaning.specs.Segments.{breaks, cut, last_bound, parts_from, path_in, segment_ends, span_between}
use Rattle.conversion_meaning.proofs.BestLemmas.{AreForward-from_well}
use Rattle.conversion_meaning.proofs.CutLemmas.{Ascends, Ascends-le, Ascends-segment_ends, below_or_not}
use Rattle.conversion_meaning.proofs.Duality.{AreForward}
use Rattle.conversion_meaning.proofs.Lists.{Among, Among-append_cases, from_filter, place_of}
use Rattle.conversion_meaning.proofs.PartLemmas.{IsBeside, IsPath-path_in, IsUncrossed, IsUncrossed-before, IsUncrossed-break, IsUncrossed-each, parts-all}

-- what each part between positions that rise has
pub All-parts : (P : ℕ × ℕ → Type 0) (Is : ℕ → Type 0) (to : ℕ) → ((x y : ℕ) → Is x → Is y → x < y → y ≤ to → P (x, y)) → (from : ℕ) (ends : List ℕ) → Is from → ((x : ℕ) → Among x ends → Is x) → Ascends from to ends → All P (parts_from from ends)
All-parts P Is to gives from [] first each rises = λ k d inside. absurd (omega arith)
All-parts P Is to gives from (x ∷ ends) first each rises =
    All-cons P (from, x) (parts_from x ends) (gives from x first (each x (inl refl)) rises.0 (Ascends-le x to ends rises.1)) (All-parts P Is to gives x ends (each x (inl refl)) (λ y h. each y (inr h)) rises.1)

-- the ordinals of a path are there
pub from_path : (es : List Entry) (from to : ℕ) (path : List ℕ) → IsPath es from to path → (o : ℕ) → Among o path → o < length es
from_path es from to [] joined o h = absurd h
from_path es from to (x ∷ path) joined o (inl same) = subst (λ y. y < length es) same joined.0
from_path es from to (x ∷ path) joined o (inr h) = from_path es (entry es x).end to path joined.2 o h

-- an id of an entry that is found, or 0
found-lt : (ids : ℕ) (f : ℕ → ℕ) (p : ℕ → Bool) → 0 < ids → (path : List ℕ) → ((o : ℕ) → Among o path → f o < ids) → option_map_or f (find p path) 0 < ids
found-lt ids f p some [] each = some
found-lt ids f p some (o ∷ path) each =
    by_test (p o) (found-lt ids f p some path (λ x h. each x (inr h)))
  where
    by_test : (t : Bool) → option_map_or f (find p path) 0 < ids → option_map_or f (cond t (Some o) (find p path)) 0 < ids
    by_test true rest = each o (inl refl)
    by_test _ rest = rest

module _ (d : DataLists) (l : Lattice) (well : IsWellFormed d l) where
  forward : AreForward l.entries
  forward = AreForward-from_well d l well

  -- no entry leads across a bound
  beside-bound : (x : ℕ) → Among x l.bounds → (o : ℕ) → o < length l.entries → IsBeside x (entry l.entries o)
  beside-bound x h o inside =
      by_order (below_or_not (entry l.entries o).begin x) (below_or_not x (entry l.entries o).end)
    where
      uncut : list_any (λ bound. nat_lt (entry l.entries o).begin bound && nat_lt bound (entry l.entries o).end) l.bounds ≡ false
      uncut = (well.entries o no_entry inside).uncut

      by_order : ((entry l.entries o).begin < x) ⊎ (x ≤ (entry l.entries o).begin) → (x < (entry l.entries o).end) ⊎ ((entry l.entries o).end ≤ x) → IsBeside x (entry l.entries o)
      by_order (inr behind) _ = inr behind
      by_order (inl after) (inr before) = inl before
      by_order (inl after) (inl within) =
          let r = place_of x l.bounds h in
          let test : (nat_lt (entry l.entries o).begin x && nat_lt x (entry l.entries o).end) ≡ true = grind (arith, nat_tests) in
          let at = subst (λ b. (nat_lt (entry l.entries o).begin b && nat_lt b (entry l.entries o).end) ≡ true) (sym (r.2 0)) test in
          let found = list_any_at (λ bound. nat_lt (entry l.entries o).begin bound && nat_lt bound (entry l.entries o).end) l.bounds r.0 0 r.1 at in
          let clash : false ≡ true = sym uncut ∙ found in
          absurd (cc)

  module _ (path : List ℕ) (joined : IsPathOver l.entries (whole l 0) path) where
    -- no entry of the path leads across a segment's end
    pub IsUncrossed-end : (x : ℕ) → Among x (segment_ends d l.entries l.bounds path) → IsUncrossed l.entries x path
    IsUncrossed-end x h =
        by_kind (Among-append_cases x l.bounds (filter (nat_lt (last_bound l.bounds)) (breaks d l.entries path)) h)
      where
        by_kind : Among x l.bounds ⊎ Among x (filter (nat_lt (last_bound l.bounds)) (breaks d l.entries path)) → IsUncrossed l.entries x path
        by_kind (inl k) =
            IsUncrossed-each l.entries forward x (beside-bound x k) 0 (length l.key) path joined
        by_kind (inr k) =
            (IsUncrossed-break l.entries forward d x 0 (length l.key) path joined (from_filter (nat_lt (last_bound l.bounds)) x (breaks d l.entries path) k).0).1

    pub IsUncrossed-start : IsUncrossed l.entries 0 path
    IsUncrossed-start =
        IsUncrossed-before l.entries forward 0 0 (length l.key) path (omega arith) joined

    pub cut-parts_are_paths : All (λ (part : ℕ × ℕ). IsPath l.entries part.0 part.1 (path_in l.entries path part)) (cut d l.entries l.bounds path)
    unfolding cut
    cut-parts_are_paths =
        All-parts (λ (part : ℕ × ℕ). IsPath l.entries part.0 part.1 (path_in l.entries path part)) (λ x. IsUncrossed l.entries x path) (length l.key) (λ x y first second some last. IsPath-path_in l.entries forward x y 0 (length l.key) path (omega arith) (omega (arith, some)) last first second joined) 0 (segment_ends d l.entries l.bounds path) IsUncrossed-start IsUncrossed-end (Ascends-segment_ends d l well path joined)

    pub cut-parts_are_all : flat_map (path_in l.entries path) (cut d l.entries l.bounds path) ≡ path
    unfolding cut
    cut-parts_are_all =
        parts-all l.entries forward (length l.key) (segment_ends d l.entries l.bounds path) path (Ascends-segment_ends d l well path joined) IsUncrossed-end joined

    pub cut-parts_are_spans : 0 < d.ids → All (λ (part : ℕ × ℕ). IsSpan d l (span_between l.entries path part)) (cut d l.entries l.bounds path)
    unfolding cut
    cut-parts_are_spans some =
        All-parts (λ (part : ℕ × ℕ). IsSpan d l (span_between l.entries path part)) (λ x. Unit {0}) (length l.key) span 0 (segment_ends d l.entries l.bounds path) tt (λ x h. tt) (Ascends-segment_ends d l well path joined)
      where
        rid : (o : ℕ) → Among o path → (entry l.entries o).rid < d.ids
        rid o h = (well.entries o no_entry (from_path l.entries 0 (length l.key) path joined o h)).right

        lid : (o : ℕ) → Among o path → (entry l.entries o).lid < d.ids
        lid o h = (well.entries o no_entry (from_path l.entries 0 (length l.key) path joined o h)).left

        span : (x y : ℕ) → Unit {0} → Unit {0} → x < y → y ≤ length l.key → IsSpan d l (span_between l.entries path (x, y))
        span x y _ _ forwards inside =
            record {
              forward = forwards;
              inside = inside;
              left = found-lt d.ids (λ o. (entry l.entries o).rid) (λ o. (entry l.entries o).end == x) some path rid;
              right = found-lt d.ids (λ o. (entry l.entries o).lid) (λ o. (entry l.entries o).begin == y) some path lid;
            }

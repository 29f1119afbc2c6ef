-- Paths: how far they lead, that the list of all paths has just them, and that characters make one.
use Rattle.std.proofs.Common.{◌≡◌, refl, sym, subst, ℕ, zero, suc, ◌+◌, ◌-◌, ◌<◌, ◌≤◌, Bool, true, cond, eqb, inl, inr, List, [], ◌∷◌, map, length, arith, eq-eqb}
use Rattle.std.specs.List.{flat_map, range_with_len}
use Rattle.std.proofs.lemmas.Bool.Decides.{nat_tests}
use Rattle.mz_base.specs.declared.lattice.Entry.{Entry}
use Rattle.mz_base.specs.declared.lattice.Span.{Span}
use Rattle.conversion_meaning.specs.AllPaths.{ordinals_from, empty_path, paths_within, all_paths}
use Rattle.conversion_meaning.specs.Lattices.{entry, HasCharacter}
use Rattle.conversion_meaning.specs.Paths.{IsPath, IsPathOver}
use Rattle.conversion_meaning.proofs.Duality.{AreForward}
use Rattle.conversion_meaning.proofs.Lists.{Among, Among-append_left, Among-append_right, Among-append_cases, Among-map, from_map, Among-filter, from_filter, Among-flat_map, from_flat_map, Among-range, from_range}

-- a path has no more entries than it has characters
pub length-le : (es : List Entry) → AreForward es → (from to : ℕ) (path : List ℕ) → IsPath es from to path → from + length path ≤ to
length-le es forward from to [] joined = omega (arith, joined)
length-le es forward from to (o ∷ path) joined =
    let this : (entry es o).begin < (entry es o).end = forward o joined.0 in
    let rest : (entry es o).end + length path ≤ to = length-le es forward (entry es o).end to path joined.2 in
    omega (arith, joined.1)

Among-empty_path : (from to : ℕ) → from ≡ to → Among [] (empty_path from to)
Among-empty_path from to same = rw (eq-eqb from to same) (inl refl)

from_empty_path : (es : List Entry) (from to : ℕ) (path : List ℕ) → Among path (empty_path from to) → IsPath es from to path
from_empty_path es from to path h = by_test es from to path (eqb from to) refl h
  where
    by_test : (es : List Entry) (from to : ℕ) (path : List ℕ) (b : Bool) → eqb from to ≡ b → Among path (cond b ([] ∷ []) []) → IsPath es from to path
    by_test es from to path true is (inl e) = subst (λ p. IsPath es from to p) e (grind (arith, nat_tests))
    by_test es from to path true is (inr h) = absurd h
    by_test es from to path _ is h = absurd h

-- the entry is among those that begin here
Among-ordinals_from : (es : List Entry) (here o : ℕ) → o < length es → (entry es o).begin ≡ here → Among o (ordinals_from es here)
Among-ordinals_from es here o inside begins =
    Among-filter (λ x. eqb (entry es x).begin here) o (range_with_len 0 (length es)) (eq-eqb (entry es o).begin here begins) (Among-range 0 (length es) o (omega arith) (omega arith))

from_ordinals_from : (es : List Entry) (here o : ℕ) → Among o (ordinals_from es here) → (o < length es) × ((entry es o).begin ≡ here)
from_ordinals_from es here o h =
    let r = from_filter (λ x. eqb (entry es x).begin here) o (range_with_len 0 (length es)) h in
    let q = from_range 0 (length es) o r.0 in
    (omega (arith, q.1), grind (arith, nat_tests, r.1))

-- every path of at most so many entries is among them
pub Among-paths_within : (es : List Entry) (most from to : ℕ) (path : List ℕ) → length path ≤ most → IsPath es from to path → Among path (paths_within most es from to)
Among-paths_within es zero from to [] few joined = Among-empty_path from to joined
Among-paths_within es zero from to (o ∷ path) few joined = absurd (omega arith)
Among-paths_within es (suc most) from to [] few joined =
    Among-append_left [] (empty_path from to) _ (Among-empty_path from to joined)
Among-paths_within es (suc most) from to (o ∷ path) few joined =
    Among-append_right (o ∷ path) (empty_path from to) (flat_map (λ x. map (λ p. x ∷ p) (paths_within most es (entry es x).end to)) (ordinals_from es from)) (Among-flat_map (λ x. map (λ p. x ∷ p) (paths_within most es (entry es x).end to)) o (o ∷ path) (ordinals_from es from) (Among-ordinals_from es from o joined.0 joined.1) (Among-map (λ p. o ∷ p) path (paths_within most es (entry es o).end to) (Among-paths_within es most (entry es o).end to path (omega arith) joined.2)))

-- and each of them is a path
pub from_paths_within : (es : List Entry) (most from to : ℕ) (path : List ℕ) → Among path (paths_within most es from to) → IsPath es from to path
from_paths_within es zero from to path h = from_empty_path es from to path h
from_paths_within es (suc most) from to path h =
    elim (Among-append_cases path (empty_path from to) (flat_map (λ x. map (λ p. x ∷ p) (paths_within most es (entry es x).end to)) (ordinals_from es from)) h) [ inl a ↦ from_empty_path es from to path a | inr b ↦ (let r = from_flat_map (λ x. map (λ p. x ∷ p) (paths_within most es (entry es x).end to)) path (ordinals_from es from) b in let o = r.0 in let q = from_map (λ p. o ∷ p) path (paths_within most es (entry es o).end to) r.2 in let begins = from_ordinals_from es from o r.1 in subst (λ p. IsPath es from to p) q.2 (begins.0, begins.1, from_paths_within es most (entry es o).end to q.0 q.1)) ]

-- the list of all paths has every path
pub Among-all_paths : (es : List Entry) (span : Span) (path : List ℕ) → AreForward es → IsPathOver es span path → Among path (all_paths es span)
unfolding all_paths
Among-all_paths es span path forward joined =
    let short = length-le es forward span.begin span.end path joined in
    Among-paths_within es (span.end - span.begin) span.begin span.end path (omega arith) joined

-- and nothing else
pub from_all_paths : (es : List Entry) (span : Span) (path : List ℕ) → Among path (all_paths es span) → IsPathOver es span path
unfolding all_paths
from_all_paths es span path h = from_paths_within es (span.end - span.begin) span.begin span.end path h

-- characters, one after the other, are a path
pub path_of_characters : (es : List Entry) (last : ℕ) → ((position : ℕ) → position < last → HasCharacter es position) → (n from to : ℕ) → from + n ≡ to → to ≤ last → (path : List ℕ) × IsPath es from to path
path_of_characters es last characters zero from to sum inside = ([], omega (arith, sum))
path_of_characters es last characters (suc n) from to sum inside =
    let here = characters from (omega arith) in
    let rest = path_of_characters es last characters n (from + 1) to (omega arith) inside in
    (here.0 ∷ rest.0, (here.1, here.2, subst (λ x. IsPath es x to rest.0) (sym here.3) rest.1))

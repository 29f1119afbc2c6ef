-- The order of a well-formed lattice, and its entries by end.
use Rattle.std.proofs.Common.{◌≡◌, refl, sym, ap, subst, ℕ, ◌<◌, ◌≤◌, Bool, true, ◌⊎◌, inl, inr, List, [], ◌∷◌, length, arith}
use Rattle.std.specs.Prelude.{slice_index}
use Rattle.std.specs.List.{filter, range_with_len}
use Rattle.std.proofs.lemmas.Bool.Decides.{nat_tests}
use Rattle.std.proofs.lemmas.List.{get_or_read}
use Rattle.mz_base.specs.Data.{DataLists}
use Rattle.mz_base.specs.declared.lattice.Entry.{Entry}
use Rattle.mz_base.specs.declared.lattice.Lattice.{Lattice}
use Rattle.conversion_meaning.specs.Lattices.{IsByEnd, IsCursor, IsWellFormed, entry, no_entry}
use Rattle.conversion_meaning.specs.Paths.{whole}
use Rattle.conversion_meaning.specs.Potentials.{is_in, ordinals_in}
use Rattle.conversion_meaning.proofs.Lists.{Among, from_range}

order : (a b : ℕ) → (a < b) ⊎ ((a ≡ b) ⊎ (b < a))
order a b = grind arith

-- an entry that ends where another begins comes before it
pub source_first : (d : DataLists) (l : Lattice) (source target : ℕ) → IsWellFormed d l → source < length l.entries → target < length l.entries → (entry l.entries source).end ≡ (entry l.entries target).begin → source < target
source_first d l source target well inside there touch = by_order (order source target)
  where
    forward : (entry l.entries source).begin < (entry l.entries source).end
    forward = (well.entries source no_entry inside).forward

    by_order : (source < target) ⊎ ((source ≡ target) ⊎ (target < source)) → source < target
    by_order (inl less) = less
    by_order (inr (inl same)) =
        let e : (entry l.entries source).begin ≡ (entry l.entries target).begin = ap (λ o. (entry l.entries o).begin) same in
        let f = forward in
        absurd (omega (arith, e, f, touch))
    by_order (inr (inr more)) =
        let e = (well.rising target source no_entry more inside).begins in
        let f = forward in
        absurd (omega (arith, e, f, touch))

filter_all : (p : ℕ → Bool) (xs : List ℕ) → ((x : ℕ) → Among x xs → p x ≡ true) → filter p xs ≡ xs
filter_all p [] passes = refl
filter_all p (x ∷ xs) passes =
    let here : p x ≡ true = passes x (inl refl) in
    rw here (ap (λ ys. x ∷ ys) (filter_all p xs (λ y h. passes y (inr h))))

-- all entries are entries of the whole key
pub ordinals_in-whole : (d : DataLists) (l : Lattice) (left : ℕ) → IsWellFormed d l → ordinals_in l.entries (whole l left) ≡ range_with_len 0 (length l.entries)
unfolding ordinals_in
ordinals_in-whole d l left well =
    filter_all (λ o. is_in (whole l left) (entry l.entries o)) (range_with_len 0 (length l.entries)) inside
  where
    inside : (o : ℕ) → Among o (range_with_len 0 (length l.entries)) → is_in (whole l left) (entry l.entries o) ≡ true
    inside o h =
        let r = from_range 0 (length l.entries) o h in
        let e = (well.entries o no_entry (omega (arith, r.1))).inside in
        grind (arith, nat_tests, e)

-- in the order of ends the first entry that does not end before a position stands at its cursor
pub IsCursor-from_first : (es : List Entry) (by_end : List ℕ) (position cursor : ℕ) → IsByEnd es by_end → cursor ≤ length by_end → ((k : ℕ) → k < cursor → (entry es (slice_index by_end k)).end < position) → (cursor < length by_end → position ≤ (entry es (slice_index by_end cursor)).end) → IsCursor es by_end position cursor
IsCursor-from_first es by_end position cursor is within before here =
    record { within = within; before = before; after = λ k low inside. by_order k inside (order cursor k) low }
  where
    by_order : (k : ℕ) → k < length by_end → (cursor < k) ⊎ ((cursor ≡ k) ⊎ (k < cursor)) → cursor ≤ k → position ≤ (entry es (slice_index by_end k)).end
    by_order k inside (inl less) low =
        let e = (is.rising cursor k 0 less inside).ends in
        let f = here (omega arith) in
        omega (arith, e, f)
    by_order k inside (inr (inl same)) low =
        subst (λ x. position ≤ (entry es (slice_index by_end x)).end) same (here (omega (arith, same)))
    by_order k inside (inr (inr more)) low = absurd (omega arith)

-- an entry that ends at a position stands in the order of ends from the position's cursor on
pub end_found : (es : List Entry) (by_end : List ℕ) (position cursor o : ℕ) → IsByEnd es by_end → IsCursor es by_end position cursor → o < length es → (entry es o).end ≡ position → (k : ℕ) × (cursor ≤ k) × (k < length by_end) × (slice_index by_end k ≡ o)
end_found es by_end position cursor o is at inside ends =
    let r = is.each o inside in
    let k = r.0 in
    let read : slice_index by_end k ≡ o = sym (get_or_read by_end k o r.1 (sym r.2) 0) in
    (k, by_cases k read (cases k cursor), r.1, read)
  where
    cases : (a b : ℕ) → (a < b) ⊎ (b ≤ a)
    cases a b = grind arith

    by_cases : (k : ℕ) → slice_index by_end k ≡ o → (k < cursor) ⊎ (cursor ≤ k) → cursor ≤ k
    by_cases k read (inl less) =
        let e = at.before k less in
        let f : (entry es (slice_index by_end k)).end ≡ (entry es o).end = ap (λ x. (entry es x).end) read in
        absurd (omega (arith, e, f, ends))
    by_cases k read (inr low) = low

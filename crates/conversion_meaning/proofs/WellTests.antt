-- What the tests of a small lattice say.
use Rattle.std.proofs.Common.{◌≡◌, refl, sym, subst, ℕ, suc, ◌+◌, ◌<◌, ◌≤◌, Bool, true, false, not, ◌&&◌, ◌||◌, eqb, List, [], ◌∷◌, length, get_or, arith}
use Rattle.std.specs.List.{Contains, list_all, list_any, range_with_len}
use Rattle.std.specs.Prelude.{nat_le, nat_lt}
use Rattle.std.proofs.lemmas.Bool.Decides.{nat_tests}
use Rattle.std.proofs.lemmas.List.Elements.{Contains-get_or}
use Rattle.mz_base.specs.Data.{DataLists}
use Rattle.mz_base.specs.Limits.{is_cost}
use Rattle.mz_base.specs.declared.lattice.Entry.{Entry}
use Rattle.mz_base.specs.declared.lattice.Lattice.{Lattice}
use Rattle.mz_base.specs.declared.lattice.TheConstants.{MOST_KEY}
use Rattle.mz_base.proofs.LimitLemmas.{IsCost-from_test}
use Rattle.conversion_meaning.specs.Lattices.{AreInEndOrder, AreInOrder, HasCharacter, IsByEnd, IsEntry, IsWellFormed, entry, no_entry}
use Rattle.conversion_meaning.specs.SmallLattices.{rises, is_entry, is_in_order, is_in_end_order, has_character, is_by_end, is_well}
use Rattle.conversion_meaning.proofs.Lists.{All-from_among, AllPairs-from_rises, Among-range, Rises}
use Rattle.conversion_meaning.proofs.Tests.{at_each}

both : (a b : Bool) → (a && b) ≡ true → (a ≡ true) × (b ≡ true)
both true b h = (refl, h)
both false b h = absurd (let clash : false ≡ true = h in cc)

-- where some element passes, it has a place
found : {X : Type 0} (p : X → Bool) (d : X) (xs : List X) → list_any p xs ≡ true → (i : ℕ) × (i < length xs) × (p (get_or xs i d) ≡ true)
found p d [] passes = absurd (let clash : false ≡ true = passes in cc)
found {X} p d (x ∷ xs) passes = by_first (found p d xs) (p x) refl passes
  where
    by_first : (list_any p xs ≡ true → (i : ℕ) × (i < length xs) × (p (get_or xs i d) ≡ true)) → (b : Bool) → p x ≡ b → (b || list_any p xs) ≡ true → (i : ℕ) × (i < length (x ∷ xs)) × (p (get_or (x ∷ xs) i d) ≡ true)
    by_first later true is h = (0, omega arith, is)
    by_first later false is h = let r = later h in (suc r.0, (let low = r.1 in omega (arith, low)), r.2)

Rises-by_test : {X : Type 0} (r : X → X → Bool) (R : X → X → Type 0) (xs : List X) → ((x y : X) → r x y ≡ true → R x y) → rises r xs ≡ true → Rises R xs
Rises-by_test r R [] means passes = tt
Rises-by_test r R (x ∷ xs) means passes =
    let parts = both (list_all (r x) xs) (rises r xs) passes in
    (λ y h. means x y (at_each (r x) xs y parts.0 h), Rises-by_test r R xs means parts.1)

ordered : (a b m n : ℕ) → (nat_le a b && (not (eqb a b) || nat_le m n)) ≡ true → (a ≤ b) × (a ≡ b → m ≤ n)
ordered a b m n passes = (grind (arith, nat_tests), λ same. grind (arith, nat_tests))

strictly_ordered : (a b m n : ℕ) → (nat_le a b && (not (eqb a b) || nat_lt m n)) ≡ true → (a ≤ b) × (a ≡ b → m < n)
strictly_ordered a b m n passes = (grind (arith, nat_tests), λ same. grind (arith, nat_tests))

AreInOrder-by_test : (e later : Entry) → is_in_order e later ≡ true → AreInOrder e later
AreInOrder-by_test e later passes =
    let r = ordered e.begin later.begin e.end later.end passes in record { begins = r.0; ends = r.1 }

AreInEndOrder-by_test : (es : List Entry) (o later : ℕ) → is_in_end_order es o later ≡ true → AreInEndOrder es o later
AreInEndOrder-by_test es o later passes =
    let r = strictly_ordered (entry es o).end (entry es later).end o later passes in record { ends = r.0; ties = r.1 }

IsEntry-by_test : (d : DataLists) (key : List ℕ) (e : Entry) → is_entry d.ids (length key) e ≡ true → IsEntry d key [] e
IsEntry-by_test d key e passes =
    let parts = both (nat_lt e.begin e.end && nat_le e.end (length key)) _ passes in
    let range = both (nat_lt e.begin e.end) (nat_le e.end (length key)) parts.0 in
    let rest = both (nat_lt e.lid d.ids && nat_lt e.rid d.ids) (is_cost e.cost) parts.1 in
    let ids = both (nat_lt e.lid d.ids) (nat_lt e.rid d.ids) rest.0 in
    record { forward = below e.begin e.end range.0; inside = up_to e.end (length key) range.1; left = below e.lid d.ids ids.0; right = below e.rid d.ids ids.1; cost = IsCost-from_test e.cost rest.1; uncut = refl }
  where
    below : (a b : ℕ) → nat_lt a b ≡ true → a < b
    below a b is = grind (arith, nat_tests)

    up_to : (a b : ℕ) → nat_le a b ≡ true → a ≤ b
    up_to a b is = grind (arith, nat_tests)

HasCharacter-by_test : (es : List Entry) (position : ℕ) → has_character es position ≡ true → HasCharacter es position
HasCharacter-by_test es position passes =
    let r = found (λ (e : Entry). eqb e.begin position && eqb e.end (position + 1)) no_entry es passes in
    let parts = both (eqb (entry es r.0).begin position) (eqb (entry es r.0).end (position + 1)) r.2 in
    (r.0, r.1, same (entry es r.0).begin position parts.0, same (entry es r.0).end (position + 1) parts.1)
  where
    same : (a b : ℕ) → eqb a b ≡ true → a ≡ b
    same a b is = grind (arith, nat_tests)

IsByEnd-by_test : (es : List Entry) (by_end : List ℕ) → is_by_end es by_end ≡ true → IsByEnd es by_end
IsByEnd-by_test es by_end passes =
    let parts = both (eqb (length by_end) (length es) && list_all (λ o. nat_lt o (length es)) by_end) _ passes in
    let first = both (eqb (length by_end) (length es)) (list_all (λ o. nat_lt o (length es)) by_end) parts.0 in
    let second = both (list_all (λ o. list_any (λ x. eqb x o) by_end) (range_with_len 0 (length es))) (rises (is_in_end_order es) by_end) parts.1 in
    record {
      count = same (length by_end) (length es) first.0;
      ordinals = All-from_among (λ o. o < length es) by_end (λ o h. below o (length es) (at_each (λ x. nat_lt x (length es)) by_end o first.1 h));
      each = λ o inside. contained o (found (λ x. eqb x o) 0 by_end (at_each (λ x. list_any (λ y. eqb y x) by_end) (range_with_len 0 (length es)) o second.0 (Among-range 0 (length es) o (omega arith) (omega (arith, inside)))));
      rising = AllPairs-from_rises (AreInEndOrder es) by_end (Rises-by_test (is_in_end_order es) (AreInEndOrder es) by_end (AreInEndOrder-by_test es) second.1);
    }
  where
    same : (a b : ℕ) → eqb a b ≡ true → a ≡ b
    same a b is = grind (arith, nat_tests)

    below : (a b : ℕ) → nat_lt a b ≡ true → a < b
    below a b is = grind (arith, nat_tests)

    contained : (o : ℕ) → (i : ℕ) × (i < length by_end) × (eqb (get_or by_end i 0) o ≡ true) → Contains by_end o
    contained o r = subst (λ x. Contains by_end x) (same (get_or by_end r.0 0) o r.2) (Contains-get_or by_end r.0 0 r.1)

-- a lattice that passes is well formed
pub IsWellFormed-by_test : (d : DataLists) (key : List ℕ) (es : List Entry) (by_end : List ℕ) → is_well d.ids key es by_end ≡ true → IsWellFormed d (record { key = key; bounds = []; entries = es; by_end = by_end })
IsWellFormed-by_test d key es by_end passes =
    let parts = both ((nat_lt 0 (length key) && nat_le (length key) MOST_KEY) && (list_all (is_entry d.ids (length key)) es && rises is_in_order es)) _ passes in
    let first = both (nat_lt 0 (length key) && nat_le (length key) MOST_KEY) _ parts.0 in
    let range = both (nat_lt 0 (length key)) (nat_le (length key) MOST_KEY) first.0 in
    let listed = both (list_all (is_entry d.ids (length key)) es) (rises is_in_order es) first.1 in
    let second = both (list_all (has_character es) (range_with_len 0 (length key))) (is_by_end es by_end) parts.1 in
    record {
      key = record { some = below 0 (length key) range.0; few = up_to (length key) MOST_KEY range.1 };
      bounds = record { rising = λ i inside. absurd (omega arith); inside = λ k d inside. absurd (omega arith) };
      entries = All-from_among (IsEntry d key []) es (λ e h. IsEntry-by_test d key e (at_each (is_entry d.ids (length key)) es e listed.0 h));
      rising = AllPairs-from_rises AreInOrder es (Rises-by_test is_in_order AreInOrder es AreInOrder-by_test listed.1);
      characters = λ position inside. HasCharacter-by_test es position (at_each (has_character es) (range_with_len 0 (length key)) position second.0 (Among-range 0 (length key) position (omega arith) (omega (arith, inside))));
      by_end = IsByEnd-by_test es by_end second.1;
    }
  where
    below : (a b : ℕ) → nat_lt a b ≡ true → a < b
    below a b is = grind (arith, nat_tests)

    up_to : (a b : ℕ) → nat_le a b ≡ true → a ≤ b
    up_to a b is = grind (arith, nat_tests)

-- and so is one that is made of the same lists
pub IsWellFormed-of : (d : DataLists) (l : Lattice) (key : List ℕ) (es : List Entry) (by_end : List ℕ) → l.key ≡ key → l.bounds ≡ [] → l.entries ≡ es → l.by_end ≡ by_end → is_well d.ids key es by_end ≡ true → IsWellFormed d l
IsWellFormed-of d l key es by_end key_is bounds_is entries_are by_end_is passes =
    subst (λ k. IsWellFormed d (record { key = k; bounds = l.bounds; entries = l.entries; by_end = l.by_end })) (sym key_is) (subst (λ b. IsWellFormed d (record { key = key; bounds = b; entries = l.entries; by_end = l.by_end })) (sym bounds_is) (subst (λ x. IsWellFormed d (record { key = key; bounds = []; entries = x; by_end = l.by_end })) (sym entries_are) (subst (λ o. IsWellFormed d (record { key = key; bounds = []; entries = es; by_end = o })) (sym by_end_is) (IsWellFormed-by_test d key es by_end passes))))

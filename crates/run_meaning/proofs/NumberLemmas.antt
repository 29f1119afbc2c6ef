-- What is read after a write at a number.
use Rattle.std.proofs.Common.{refl, sym, ap, ℕ, zero, suc, ◌<◌, List, length, get_or-set_same, get_or-set_other, length-set}
use Rattle.std.specs.Prelude.{IsTrue, nat_lt, nat_le}
use Rattle.std.proofs.lemmas.Bool.{and_parts, false≢true, leb-true}
use Rattle.run_meaning.specs.Numbers.{CountStays, OthersStay, WrittenIsRead, is_number}

-- a number of a list is above a place of it
pub number_at : {A : Type 0} (items : List A) (place : ℕ) → IsTrue (is_number items (suc place)) → place < length items
number_at items place there = leb-true (suc place) (length items) (and_parts (nat_lt 0 (suc place)) (nat_le (suc place) (length items)) there).1

pub written : {A : Type 0} → WrittenIsRead A
written none items zero item there = absurd (false≢true there)
written none items (suc place) item there = get_or-set_same items place item none (number_at items place there)

pub others : {A : Type 0} → OthersStay A
others none items zero other item apart = refl
others none items (suc place) zero item apart = refl
others none items (suc place) (suc other) item apart = get_or-set_other items place other item none (λ same. apart (ap suc (sym same)))

pub count : {A : Type 0} → CountStays A
count items zero item = refl
count items (suc place) item = length-set items place item

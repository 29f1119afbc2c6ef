-- A file has no more lines than bytes, and one.
use Rattle.std.proofs.Common.{ℕ, ◌+◌, ◌-◌, ◌≤◌, ◌==◌, Bool, true, false, List, [], if◌then◌else◌, length, take, drop, slice_index, nat_eq, arith}
use Rattle.std.specs.List.{slice_split, starts_with}
use Rattle.std.specs.Str.Lines.{strip_carriage_return}
use Rattle.std.proofs.lemmas.List.{length-map, length-drop, length-take-le}
use Rattle.std.proofs.lemmas.List.Splits.{length-slice_split}
use Rattle.std.proofs.lemmas.List.Sums.{count_by-le-length}
use Rattle.mz_base.specs.Lines.{byte_order_mark, without_mark, without_last_feed, lines_in, lines_of}

few-either : {A : Type 0} (b : Bool) (xs ys : List A) (n : ℕ) → length xs ≤ n → length ys ≤ n → length (if b then xs else ys) ≤ n
few-either true xs ys n first second = first
few-either false xs ys n first second = second

few-without_mark : (bytes : List ℕ) → length (without_mark bytes) ≤ length bytes
few-without_mark bytes =
    let dropped = length-drop 3 bytes in
    few-either (starts_with nat_eq bytes byte_order_mark) (drop 3 bytes) bytes (length bytes) (omega (arith, dropped)) (omega arith)

few-without_last_feed : (bytes : List ℕ) → length (without_last_feed bytes) ≤ length bytes
few-without_last_feed bytes =
    let inside : length bytes - 1 ≤ length bytes = omega arith in
    let taken = length-take-le (length bytes - 1) bytes inside in
    few-either (slice_index bytes (length bytes - 1) == 10) (take (length bytes - 1) bytes) bytes (length bytes) (omega (arith, taken)) (omega arith)

few-lines_in : (text : List ℕ) → length (lines_in text) ≤ length text + 1
unfolding lines_in
few-lines_in text =
    let parts = slice_split (λ b. b == 10) (without_last_feed text) in
    let mapped = length-map parts strip_carriage_return in
    let cut = length-slice_split (λ b. b == 10) (without_last_feed text) in
    let counted = count_by-le-length (λ b. b == 10) (without_last_feed text) in
    omega (arith, mapped, cut, counted, few-without_last_feed text)

pub few-lines_of : (bytes : List ℕ) → length (lines_of bytes) ≤ length bytes + 1
unfolding lines_of
few-lines_of bytes =
    let some = few-lines_in (without_mark bytes) in
    few-either (length (without_mark bytes) == 0) [] (lines_in (without_mark bytes)) (length bytes + 1) (omega arith) (omega (arith, some, few-without_mark bytes))

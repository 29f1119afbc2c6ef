use Rattle.std.proofs.Common.{ℕ, ◌+◌, ◌-◌, ◌≤◌, ◌==◌, Bool, cond, true, false, List, length, map, take, drop, rules, arith}
use Rattle.std.specs.Prelude.{nat_eq, slice_index}
use Rattle.std.specs.List.{slice_split, starts_with}
use Rattle.std.specs.Str.Lines.{strip_carriage_return}
use Rattle.std.proofs.lemmas.List.{length-map, length-drop, length-take}
use Rattle.std.proofs.lemmas.List.Splits.{length-slice_split}
use Rattle.std.proofs.lemmas.List.Sums.{count_by-le-length}
use Rattle.mz_base.specs.Lines.{byte_order_mark, lines_of, lines_in, without_mark, without_last_feed}
use Rattle.mz_base.proofs.lines.FileLines.of.Goals as goal

-- one of two lists, each no longer than the bytes
one-few : (t : Bool) (bytes xs ys : List ℕ) → length xs ≤ length bytes → length ys ≤ length bytes → length (cond t xs ys) ≤ length bytes
one-few true bytes xs ys first second = first
one-few false bytes xs ys first second = second

drop-few : (n : ℕ) (xs : List ℕ) → length (drop n xs) ≤ length xs
drop-few n xs = rw length-drop (search arith)

take-few : (n : ℕ) (xs : List ℕ) → length (take n xs) ≤ length xs
take-few n xs = grind (arith, length-take)

marked-few : (bytes : List ℕ) → length (without_mark bytes) ≤ length bytes
marked-few bytes =
    one-few (starts_with nat_eq bytes byte_order_mark) bytes (drop 3 bytes) bytes (drop-few 3 bytes) (search arith)

fed-few : (text : List ℕ) → length (without_last_feed text) ≤ length text
fed-few text =
    one-few (slice_index text (length text - 1) == 10) text (take (length text - 1) text) text (take-few (length text - 1) text) (search arith)

parts-few : (bytes part : List ℕ) → length part ≤ length bytes → length (map strip_carriage_return (slice_split (λ b. b == 10) part)) ≤ length bytes + 1
parts-few bytes part few =
    let inside = count_by-le-length (λ b. b == 10) part in
    rw (length-map, length-slice_split) (omega (arith, inside, few))

pub returns-then-is_empty-clause-lines : goal.returns-then-is_empty-clause-lines
unfolding lines_of
returns-then-is_empty-clause-lines c = search rules

pub returns-clause-lines : goal.returns-clause-lines
unfolding lines_of lines_in
returns-clause-lines c = search rules

pub returns-clause-few : goal.returns-clause-few
returns-clause-few c =
    let mark : length c.skip_mark-text.result.now ≤ length c.args.bytes.now = rw c.skip_mark-text.ensures (marked-few c.args.bytes.now) in
    let feed : length c.drop_last_feed.result.now ≤ length c.skip_mark-text.result.now = rw c.drop_last_feed.ensures (fed-few c.skip_mark-text.result.now) in
    parts-few c.args.bytes.now c.drop_last_feed.result.now (omega (arith, mark, feed))

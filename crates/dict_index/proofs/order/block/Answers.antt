use Rattle.std.proofs.Common.{◌≡◌, ◌+◌, ◌≤◌, true, false, rules, sym, ap, subst, ◌∙◌, arith, drop, length, length-drop}
use Rattle.std.specs.List.Sorted.{IsPartitionPoint, IsPartitionedBy}
use Rattle.std.specs.Ordering.{is_le, is_lt, ordering_index}
use Rattle.std.proofs.lemmas.List.Sorted.{IsNonDecreasingBy-drop, IsPartitionPoint-from_clause}
use Rattle.dict_index.specs.Heads.{places_in}
use Rattle.dict_index.proofs.Codes.{by_text, by_text-rises, standing-by_text}
use Rattle.dict_index.proofs.Standing.{IsPartitionedBy-le, IsPartitionedBy-lt, tied-between}
use Rattle.dict_index.proofs.order.block.Goals as goal

pub returns : goal.returns
returns c =
    let texts = c.args.texts.now in
    let text = c.args.text.now in
    let heads = c.args.heads.now in
    let by = by_text texts heads text c.args.width in
    let rises = by_text-rises texts heads text c.args.width c.requires in
    let i = c.partition_point-start.result in
    let j = c.partition_point-count.result in
    let rest = c.split_at.result.1.now in
    let is-rest = c.split_at.ensures.back in
    let low = IsPartitionPoint-from_clause (λ head. is_lt (by head)) heads i c.partition_point-start.ensures.partitioned (IsPartitionedBy-lt by heads rises) (λ a r f' called. search rules) in
    let rest-rises = IsNonDecreasingBy-drop (λ head. ordering_index (by head)) i heads rises in
    let parted = subst (λ xs. IsPartitionedBy (λ head. is_le (by head)) xs) (sym is-rest) (IsPartitionedBy-le by (drop i heads) rest-rises) in
    let high = IsPartitionPoint-from_clause (λ head. is_le (by head)) rest j c.partition_point-count.ensures.partitioned parted (λ a r f' called. search rules) in
    let high-there = subst (λ xs. IsPartitionPoint (λ head. is_le (by head) ≡ true) (λ head. is_le (by head) ≡ false) xs j) is-rest high in
    let inside : i + j ≤ length heads =
    omega (arith, c.partition_point-start.ensures.bound, c.partition_point-count.ensures.bound, ap (λ xs. length xs) is-rest, length-drop i heads) in
    let found = sym (tied-between by heads i j low high-there) in
    record { inside = inside; found = ap places_in found ∙ standing-by_text texts heads text c.args.width }

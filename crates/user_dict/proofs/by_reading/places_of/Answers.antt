use Rattle.std.proofs.Common.{◌≡◌, true, false, rules, sym, ap, subst, ◌∙◌, drop, take}
use Rattle.std.specs.List.Sorted.{IsPartitionPoint, IsPartitionedBy}
use Rattle.std.specs.Ordering.{is_le, is_lt, ordering_index}
use Rattle.std.proofs.lemmas.List.Sorted.{IsNonDecreasingBy-drop, IsPartitionPoint-from_clause}
use Rattle.dict_index.proofs.Standing.{IsPartitionedBy-le, IsPartitionedBy-lt}
use Rattle.user_dict.specs.Readings.{user_readings}
use Rattle.user_dict.proofs.PlaceLemmas.{found-rows, stands, stands-rises}
use Rattle.user_dict.proofs.by_reading.places_of.Goals as goal

pub returns : goal.returns
returns c =
    let texts = user_readings c.args.rows.now in
    let text = c.args.reading.now in
    let places = c.args.places.now in
    let by = stands texts text in
    let rises = stands-rises texts text places c.requires.sorted in
    let i = c.partition_point-start.result in
    let j = c.partition_point-count.result in
    let rest = c.split_at.result.1.now in
    let is-rest = c.split_at.ensures.back in
    let low = IsPartitionPoint-from_clause (λ place. is_lt (by place)) places i c.partition_point-start.ensures.partitioned (IsPartitionedBy-lt by places rises) (λ a r f' called. search rules) in
    let rest-rises = IsNonDecreasingBy-drop (λ place. ordering_index (by place)) i places rises in
    let parted = subst (λ xs. IsPartitionedBy (λ place. is_le (by place)) xs) (sym is-rest) (IsPartitionedBy-le by (drop i places) rest-rises) in
    let high = IsPartitionPoint-from_clause (λ place. is_le (by place)) rest j c.partition_point-count.ensures.partitioned parted (λ a r f' called. search rules) in
    let high-there = subst (λ xs. IsPartitionPoint (λ place. is_le (by place) ≡ true) (λ place. is_le (by place) ≡ false) xs j) is-rest high in
    c.split_at-2.ensures.front ∙ (ap (λ xs. take j xs) is-rest ∙ found-rows texts text places c.requires i j low high-there)

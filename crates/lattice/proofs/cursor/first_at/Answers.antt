use Rattle.std.proofs.Common.{rules, ltb}
use Rattle.std.proofs.lemmas.List.Sorted.{IsPartitionPoint-from_clause, IsPartitionedBy-ltb}
use Rattle.lattice.proofs.HalvingLemmas.{IsCursor-at, IsNonDecreasingBy-ends, end_at}
use Rattle.lattice.proofs.cursor.first_at.Goals as goal

pub returns : goal.returns
returns c =
    let es = c.args.entries.now in
    let order = c.args.by_end.now in
    let position = c.args.position in
    let cursor = c.partition_point.result in
    let parted = IsPartitionedBy-ltb (end_at es) order position (IsNonDecreasingBy-ends es order c.requires) in
    let at = IsPartitionPoint-from_clause (λ o. ltb (end_at es o) position) order cursor c.partition_point.ensures.partitioned parted (λ a r f' called. search rules) in
    IsCursor-at es order position cursor c.partition_point.ensures.bound at

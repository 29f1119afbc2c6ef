use Rattle.std.proofs.Common.{rules, ltb}
use Rattle.std.proofs.lemmas.List.Sorted.{IsPartitionPoint-from_clause, IsPartitionedBy-ltb}
use Rattle.mz_base.specs.declared.lattice.Entry.{Entry}
use Rattle.lattice.proofs.HalvingLemmas.{IsBegin-at, IsNonDecreasingBy-begins, begin_at}
use Rattle.lattice.proofs.cursor.first_beginning_at.Goals as goal

pub returns : goal.returns
returns c =
    let es = c.args.entries.now in
    let position = c.args.position in
    let ordinal = c.partition_point.result in
    let parted = IsPartitionedBy-ltb begin_at es position (IsNonDecreasingBy-begins es c.requires) in
    let at = IsPartitionPoint-from_clause (λ (e : Entry). ltb (begin_at e) position) es ordinal c.partition_point.ensures.partitioned parted (λ a r f' called. search rules) in
    IsBegin-at es position ordinal c.partition_point.ensures.bound at

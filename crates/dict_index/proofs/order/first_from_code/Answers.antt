use Rattle.std.proofs.Common.{rules}
use Rattle.std.proofs.lemmas.List.Sorted.{IsPartitionPoint-from_clause}
use Rattle.dict_index.specs.Heads.{is_below}
use Rattle.dict_index.proofs.order.first_from_code.Goals as goal

pub returns-else-is_first_from_code-clause-point : goal.returns-else-is_first_from_code-clause-point
returns-else-is_first_from_code-clause-point c =
    IsPartitionPoint-from_clause (is_below c.args.texts.now c.args.depth c.args.code) c.args.heads.now c.partition_point.result c.partition_point.ensures.partitioned c.requires (λ a r f' called. search rules)

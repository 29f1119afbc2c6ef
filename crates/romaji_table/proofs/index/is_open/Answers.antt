use Rattle.std.proofs.Common.{rules}
use Rattle.std.proofs.lemmas.List.Sorted.{IsPartitionPoint-from_clause}
use Rattle.romaji_table.proofs.InputOrder.{is_upto, upto-parts, open-at, open-past}
use Rattle.romaji_table.proofs.index.is_open.Goals as goal

pub returns-in-Some : goal.returns-in-Some
returns-in-Some c =
    let rules_now = c.args.rules.now in
    let places = c.args.places.now in
    let text = c.args.text.now in
    let i = c.partition_point-after.result in
    let point = IsPartitionPoint-from_clause (is_upto rules_now places text c.requires) places i c.partition_point-after.ensures.partitioned (upto-parts rules_now places text c.requires) (λ a r f' k. search rules) in
    let lookup = c.in-Some.ensures.lookup in
    rw (c.opens.ensures, c.input_at.ensures, lookup.3.1 0) (open-at rules_now places text c.requires i lookup.3.0 point)

pub returns-in-None : goal.returns-in-None
returns-in-None c =
    let rules_now = c.args.rules.now in
    let places = c.args.places.now in
    let text = c.args.text.now in
    let i = c.partition_point-after.result in
    let point = IsPartitionPoint-from_clause (is_upto rules_now places text c.requires) places i c.partition_point-after.ensures.partitioned (upto-parts rules_now places text c.requires) (λ a r f' k. search rules) in
    open-past rules_now places text c.requires i (search rules) point

use Rattle.std.proofs.Common.{rules, ap, ◌∙◌, ◌-◌, length, ltb}
use Rattle.std.proofs.lemmas.List.Sorted.{IsPartitionPoint-from_clause, IsPartitionedBy-ltb}
use Rattle.mz_base.specs.declared.lattice.Entry.{Entry}
use Rattle.conversion_meaning.specs.Lattices.{entry}
use Rattle.conversion_meaning.specs.Potentials.{is_in}
use Rattle.nbest.specs.Costs.{begins_at, padded}
use Rattle.nbest.proofs.CostLemmas.{by_ordinal-padded, fails-before, fails-past, places-in_order}
use Rattle.nbest.proofs.costs.Costs.from_potentials.Goals as goal

pub returns : goal.returns
returns c =
    let es = c.args.entries.now in
    let span = c.args.span.now in
    let i = c.partition_point-before.result in
    let j = c.partition_point-end.result in
    let low = IsPartitionPoint-from_clause (λ (e : Entry). ltb (begins_at e) span.begin) es i c.partition_point-before.ensures.partitioned (IsPartitionedBy-ltb begins_at es span.begin c.requires.rising) (λ a r f' called. search rules) in
    let high = IsPartitionPoint-from_clause (λ (e : Entry). ltb (begins_at e) span.end) es j c.partition_point-end.ensures.partitioned (IsPartitionedBy-ltb begins_at es span.end c.requires.rising) (λ a r f' called. search rules) in
    let within = c.partition_point-before.ensures.bound in
    let below = places-in_order es span i j c.requires.ahead c.requires.span within low high in
    let front = fails-before es span i j c.requires.ahead c.requires.span within low high in
    let back = fails-past es span i j c.requires.ahead c.requires.span within low high in
    ap (λ costs. padded i costs (length es - j)) c.in_ok-costs.ensures ∙ by_ordinal-padded (λ o. is_in span (entry es o)) c.args.potentials.now (length es) i j below c.partition_point-end.ensures.bound front back

use Rattle.std.proofs.Common.{◌≡◌, true, false, rules, sym, ap, subst, ◌∙◌, drop, take, ltb, leb}
use Rattle.std.specs.List.Sorted.{IsPartitionPoint, IsPartitionedBy}
use Rattle.std.proofs.lemmas.List.Sorted.{IsNonDecreasingBy-drop, IsPartitionPoint-from_clause, IsPartitionedBy-leb, IsPartitionedBy-ltb}
use Rattle.nbest.specs.Searches.{end_of}
use Rattle.nbest.proofs.EndLemmas.{between}
use Rattle.nbest.proofs.grow.ending_at.Goals as goal

pub returns : goal.returns
returns c =
    let n = end_of c.args.entries.now in
    let t = c.args.position in
    let xs = c.args.by_end.now in
    let i = c.partition_point-before.result in
    let j = c.partition_point-count.result in
    let rest = c.split_at.result.1.now in
    let is-rest = c.split_at.ensures.back in
    let low = IsPartitionPoint-from_clause (λ x. ltb (n x) t) xs i c.partition_point-before.ensures.partitioned (IsPartitionedBy-ltb n xs t c.requires) (λ a r f' called. search rules) in
    let parted = subst (λ ys. IsPartitionedBy (λ x. leb (n x) t) ys) (sym is-rest) (IsPartitionedBy-leb n (drop i xs) t (IsNonDecreasingBy-drop n i xs c.requires)) in
    let high = IsPartitionPoint-from_clause (λ x. leb (n x) t) rest j c.partition_point-count.ensures.partitioned parted (λ a r f' called. search rules) in
    let high-there = subst (λ ys. IsPartitionPoint (λ x. leb (n x) t ≡ true) (λ x. leb (n x) t ≡ false) ys j) is-rest high in
    c.split_at-2.ensures.front ∙ ap (λ ys. take j ys) is-rest ∙ between n t xs i j low high-there

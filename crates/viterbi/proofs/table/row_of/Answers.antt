use Rattle.std.proofs.Common.{◌≡◌, subst, arith, w32, to_z, of_z}
use Rattle.std.proofs.lemmas.Int.{ints}
use Rattle.std.specs.Prelude.{ℤ}
use Rattle.viterbi.specs.Arrivals.{IsReachedBy}
use Rattle.viterbi.proofs.table.row_of.Goals as goal

pub returns-clause-inside : goal.returns-clause-inside
returns-clause-inside g c = λ _.
    let next = c.args.next.now in
    let cost = c.requires.cost in
    let above = cost.above in
    let below = cost.below in
    let same : to_z w32 (of_z w32 next.cost) ≡ next.cost = grind (arith, ints) in
    subst (λ (own : ℤ). IsReachedBy (g.D.DataSet.lists c.args.set.now) c.args.span.now c.args.arrivals.now (record { begin = next.begin; lid = next.lid; cost = own }) c.reach.result) same c.reach.ensures

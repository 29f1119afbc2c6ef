use Rattle.std.proofs.Common.{sym, subst, List, arith, pos}
use Rattle.viterbi.specs.declared.arrivals.Arrival.{Arrival}
use Rattle.viterbi.specs.declared.table.Target.{Target}
use Rattle.viterbi.specs.Arrivals.{AreArrivals, AreSound, IsReachedBy}
use Rattle.viterbi.proofs.TableLemmas.{AreSound-arrivals, IsReached-by}
use Rattle.viterbi.proofs.table.reach_end.Goals as goal

pub reach-requires-clause-sound : goal.reach-requires-clause-sound
reach-requires-clause-sound g c =
    let d = g.D.DataSet.lists c.args.set.now in
    let l = c.args.lattice.now in
    let span = c.args.span.now in
    let table = c.args.table.now in
    let there = c.in_ok-there.there in
    let xs = there.list.items in
    let are : AreArrivals l.entries span table there.to xs = subst (λ es. AreArrivals es span table there.to xs) c.as_slice-entries.ensures c.in_ok-there.ensures.all.are in
    let within = c.requires.table.all.within in
    subst (λ (ys : List Arrival). AreSound d ys) (sym c.as_slice.ensures.value) (AreSound-arrivals d l span c.requires.well c.requires.span table c.requires.table.is there.to xs within are)

pub returns : goal.returns
returns g c =
    let d = g.D.DataSet.lists c.args.set.now in
    let l = c.args.lattice.now in
    let span = c.args.span.now in
    let table = c.args.table.now in
    let there = c.in_ok-there.there in
    let xs = there.list.items in
    let end : Target = record { begin = span.end; lid = span.right; cost = pos 0 } in
    let by : IsReachedBy d span xs end c.reach.result = subst (λ (ys : List Arrival). IsReachedBy d span ys end c.reach.result) c.as_slice.ensures.value c.reach.ensures in
    let are : AreArrivals l.entries span table span.end xs = subst (λ to. AreArrivals l.entries span table to xs) c.in_ok-there.ensures.to (subst (λ es. AreArrivals es span table there.to xs) c.as_slice-entries.ensures c.in_ok-there.ensures.all.are) in
    let within = c.requires.table.all.within in
    let forward = c.requires.span.forward in
    IsReached-by d l span c.requires.well c.requires.span table c.requires.table.is end xs c.reach.result within (omega (arith, forward)) (omega arith) are by.begin by.chosen

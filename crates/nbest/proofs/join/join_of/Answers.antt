use Rattle.std.proofs.Common.{◌≡◌, ap, arith, w32, w64, to_z, of_z}
use Rattle.std.specs.Prelude.{pos, slice_index_or}
use Rattle.std.proofs.lemmas.Int.{ints}
use Rattle.conversion_meaning.specs.Lattices.{entry}
use Rattle.nbest.specs.Searches.{first_of}
use Rattle.nbest.proofs.join.join_of.Goals as goal

pub overflow_add-result : goal.overflow_add-result
overflow_add-result c =
    let o = first_of c.args.tail.now.ordinals in
    let cost = slice_index_or c.args.costs.now o (pos 0) in
    let own = (entry c.args.entries.now o).cost in
    let estimate = c.args.tail.now.estimate in
    let ea = c.requires.estimate.above in
    let eb = c.requires.estimate.below in
    let ca = c.requires.cost.above in
    let cb = c.requires.cost.below in
    let oa = c.requires.own.above in
    let ob = c.requires.own.below in
    let first = c.first_of-first.ensures.is in
    let cost_is : slice_index_or c.args.costs.now c.first_of-first.result (pos 0) ≡ cost = ap (λ i. slice_index_or c.args.costs.now i (pos 0)) first in
    let own_is : (entry c.args.entries.now c.first_of-first.result).cost ≡ own = ap (λ i. (entry c.args.entries.now i).cost) first in
    let from_is = c.from.ensures in
    let f : to_z w32 (of_z w32 (entry c.args.entries.now c.first_of-first.result).cost) ≡ own = omega (arith, ints, own_is, oa, ob) in
    let a : to_z w64 (of_z w64 estimate) ≡ estimate = omega (arith, ints, ea, eb) in
    let b : to_z w64 (of_z w64 (slice_index_or c.args.costs.now c.first_of-first.result (pos 0))) ≡ cost = omega (arith, ints, cost_is, ca, cb) in
    search (arith, ints, a, b, f, from_is, ea, eb, ca, cb, oa, ob)

pub returns-clause-rest : goal.returns-clause-rest
returns-clause-rest c =
    let o = first_of c.args.tail.now.ordinals in
    let cost = slice_index_or c.args.costs.now o (pos 0) in
    let own = (entry c.args.entries.now o).cost in
    let estimate = c.args.tail.now.estimate in
    let ea = c.requires.estimate.above in
    let eb = c.requires.estimate.below in
    let ca = c.requires.cost.above in
    let cb = c.requires.cost.below in
    let oa = c.requires.own.above in
    let ob = c.requires.own.below in
    let first = c.first_of-first.ensures.is in
    let cost_is : slice_index_or c.args.costs.now c.first_of-first.result (pos 0) ≡ cost = ap (λ i. slice_index_or c.args.costs.now i (pos 0)) first in
    let own_is : (entry c.args.entries.now c.first_of-first.result).cost ≡ own = ap (λ i. (entry c.args.entries.now i).cost) first in
    let from_is = c.from.ensures in
    let f : to_z w32 (of_z w32 (entry c.args.entries.now c.first_of-first.result).cost) ≡ own = omega (arith, ints, own_is, oa, ob) in
    let a : to_z w64 (of_z w64 estimate) ≡ estimate = omega (arith, ints, ea, eb) in
    let b : to_z w64 (of_z w64 (slice_index_or c.args.costs.now c.first_of-first.result (pos 0))) ≡ cost = omega (arith, ints, cost_is, ca, cb) in
    omega (arith, ints, a, b, f, from_is, ea, eb, ca, cb, oa, ob)

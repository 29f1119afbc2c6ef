use Rattle.std.proofs.Common.{◌≡◌, refl, arith, w64, to_z, of_z}
use Rattle.std.proofs.lemmas.Int.{ints}
use Rattle.viterbi.specs.Arrivals.{arrival}
use Rattle.viterbi.proofs.ArrivalLemmas.{IsCheapest-from_first}
use Rattle.viterbi.proofs.arrivals.cheapest.Goals as goal

pub returns : goal.returns
returns g c =
    let sound = c.requires.sound in
    let offer = c.first_least-least.result in
    let is = c.first_least-least.ensures in
    let cost_is = is.cost_is in
    let cost = sound.costs offer.place is.inside in
    let connection = (g.met.D.DataSet.sound c.args.set.now).connections (arrival c.args.arrivals.now offer.place).rid c.args.lid (sound.ids offer.place is.inside) c.requires.target in
    let cost_above = cost.above in
    let cost_below = cost.below in
    let above = connection.above in
    let below = connection.below in
    let same : to_z w64 (of_z w64 offer.cost) ≡ offer.cost = grind (arith, ints) in
    IsCheapest-from_first (g.D.DataSet.lists c.args.set.now) c.args.arrivals.now c.args.lid offer _ sound.rising is same refl

use Rattle.std.proofs.Common.{arith, sym, subst}
use Rattle.std.proofs.lemmas.Int.{ints}
use Rattle.mz_base.specs.Data.{IsCost}
use Rattle.cert_check.proofs.WalkLemmas.{Follows-sound, IsAt-next, IsAt-end}
use Rattle.cert_check.proofs.walk.walk.Goals as goal

pub loop-place-preserved : goal.loop-place-preserved
loop-place-preserved g c =
    let d = g.D.DataSet.lists c.args.set.now in
    let small = g.met.D.DataSet.sound c.args.set.now in
    let e_sound = Follows-sound d c.args.entries.now c.loop-place.here _ c.in-Some.entry c.requires.sound c.in-Some.ensures in
    let k_small : IsCost c.conn.result = subst (λ z. IsCost z) (sym c.conn.ensures) (small.connections c.loop-place.rid c.in-Some.entry.lid c.loop-place.invariant.id e_sound.left) in
    let low = c.loop-place.invariant.low in
    let high = c.loop-place.invariant.high in
    IsAt-next (g.D.DataSet.lists c.args.set.now) c.args.entries.now c.args.span.now c.args.path.now c.loop-place.here c.loop-place.rid _ c.loop-place.place c.loop-place.invariant c.in-Some.entry c.conn.result _ c.requires.sound c.requires.inside (omega arith) c.in-Some.ensures c.conn.ensures k_small (omega (arith, ints, k_small.above, k_small.below, e_sound.cost.above, e_sound.cost.below, low, high, c.loop-place.invariant.inside, c.requires.key.short))

pub returns : goal.returns
returns g c =
    let small = g.met.D.DataSet.sound c.args.set.now in
    let k_small : IsCost c.conn-2.result = subst (λ z. IsCost z) (sym c.conn-2.ensures) (small.connections c.loop-place.rid c.args.span.now.right c.loop-place.invariant.id c.requires.key.right) in
    let low = c.loop-place.invariant.low in
    let high = c.loop-place.invariant.high in
    IsAt-end (g.D.DataSet.lists c.args.set.now) c.args.entries.now c.args.span.now c.args.path.now c.loop-place.here c.loop-place.rid _ c.loop-place.place c.loop-place.invariant c.conn-2.result _ (omega arith) (omega arith) c.conn-2.ensures (omega (arith, ints, k_small.above, k_small.below, low, high, c.loop-place.invariant.inside, c.requires.key.short))

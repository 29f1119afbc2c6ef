use Rattle.std.proofs.Common.{arith}
use Rattle.lattice.proofs.MadeLemmas.{IsEntry-made, IsThere-made}
use Rattle.lattice.proofs.value.value_of.Goals as goal

pub part-text-requires-clause-forward : goal.part-text-requires-clause-forward
part-text-requires-clause-forward g c =
    let is = IsEntry-made (g.D.DataSet.lists c.args.set.now) (g.U.UserWords.rows c.args.user.now) c.args.lattice.now c.args.ordinal (g.met.D.DataSet.sound c.args.set.now) c.requires.made c.requires.inside in
    rw c.as_slice.ensures (let forward = is.forward in omega arith)

pub part-text-requires-clause-inside : goal.part-text-requires-clause-inside
part-text-requires-clause-inside g c =
    let is = IsEntry-made (g.D.DataSet.lists c.args.set.now) (g.U.UserWords.rows c.args.user.now) c.args.lattice.now c.args.ordinal (g.met.D.DataSet.sound c.args.set.now) c.requires.made c.requires.inside in
    rw c.as_slice.ensures (rw c.as_slice-2.ensures is.inside)

pub value_from-requires : goal.value_from-requires
value_from-requires g c =
    rw c.as_slice.ensures (IsThere-made _ _ c.args.lattice.now c.args.ordinal c.requires.made c.requires.inside)

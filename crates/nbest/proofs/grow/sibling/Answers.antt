use Rattle.std.proofs.Common.{◌≡◌, ap, ◌∙◌, arith, w32, w64, to_z, of_z}
use Rattle.std.specs.Prelude.{pos, slice_index_or}
use Rattle.std.proofs.lemmas.Int.{ints}
use Rattle.mz_base.specs.Data.{connection}
use Rattle.conversion_meaning.specs.Lattices.{entry}
use Rattle.nbest.proofs.SignedLemmas.{kept}
use Rattle.nbest.proofs.grow.sibling.Goals as goal

pub returns-clause-is : goal.returns-clause-is
returns-clause-is g c =
    let cost = slice_index_or c.args.costs.now c.args.ordinal (pos 0) in
    let above = c.requires.cost.above in
    let below = c.requires.cost.below in
    let same : to_z w64 (of_z w64 cost) ≡ cost = grind (arith, ints) in
    let link = (g.met.D.DataSet.sound c.args.set.now).connections (entry c.args.entries.now c.args.ordinal).rid c.args.lid c.requires.rid c.requires.lid in
    let conn_above = link.above in
    let conn_below = link.below in
    let conn_is : c.conn-connection.result ≡ connection (g.D.DataSet.lists c.args.set.now) (entry c.args.entries.now c.args.ordinal).rid c.args.lid = c.conn-connection.ensures in
    let linked : to_z w32 (of_z w32 c.conn-connection.result) ≡ connection (g.D.DataSet.lists c.args.set.now) (entry c.args.entries.now c.args.ordinal).rid c.args.lid = grind (arith, ints) in
    let sum = c.added.ensures in
    ap (λ z. record { added = z; ordinal = c.args.ordinal }) (kept c.added.result c.added.type_inv ∙ omega (arith, ints, sum, same, linked))

use Rattle.segments.proofs.CutLemmas.{segment_ends-is}
use Rattle.segments.proofs.cutting.segment_ends.Goals as goal

pub returns : goal.returns
returns g c =
    segment_ends-is (g.D.DataSet.lists c.args.set.now) c.args.lattice.now.entries c.args.lattice.now.bounds c.args.path.now c.as_slice-bounds.result.now c.in_ok-ends.ends.items _ c.last_bound.result c.in_ok-push_breaks.ensures c.in_ok-ends.ensures.items c.last_bound.ensures c.as_slice-bounds.ensures

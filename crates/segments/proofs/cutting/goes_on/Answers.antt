use Rattle.std.proofs.Common.{ap, sym, ◌∙◌}
use Rattle.mz_base.specs.Data.{joins}
use Rattle.conversion_meaning.specs.Lattices.{entry}
use Rattle.segments.proofs.CutLemmas.{goes_on-none, goes_on-some}
use Rattle.segments.proofs.cutting.goes_on.Goals as goal

pub returns-in-Some : goal.returns-in-Some
returns-in-Some g c =
    let d = g.D.DataSet.lists c.args.set.now in
    let o = c.args.ordinal in
    let next = c.in-Some.next.now in
    c.joins.ensures ∙ (ap (λ es. joins d (entry es o).rid (entry es next).lid) c.as_slice-entries.ensures ∙ sym (goes_on-some d c.args.lattice.now.entries o c.args.rest.now next c.in-Some.ensures.value))

pub returns-in-None : goal.returns-in-None
returns-in-None g c =
    goes_on-none (g.D.DataSet.lists c.args.set.now) c.args.lattice.now.entries c.args.ordinal c.args.rest.now c.in-None.ensures.value

use Rattle.std.proofs.Common.{◌≡◌, subst, ap, arith}
use Rattle.cert_check.specs.declared.edge.Target.{Target}
use Rattle.cert_check.specs.Edges.{AreMetInto, target_at}
use Rattle.cert_check.proofs.TargetLemmas.{AreMetTo-next, EndBefore-later, begin-rises}
use Rattle.cert_check.proofs.edges.unmet_edge.Goals as goal

pub loop-rank-preserved : goal.loop-rank-preserved
loop-rank-preserved g c =
    let d = g.D.DataSet.lists c.args.set.now in
    let rises = begin-rises c.args.entries.now c.args.potentials.now c.args.end.now c.loop-rank.rank c.requires.ready.rising in
    let begins : c.nth_target-target.result.begin ≡ (target_at c.args.entries.now c.args.potentials.now c.args.end.now c.loop-rank.rank).begin = ap (λ (t : Target). t.begin) c.nth_target-target.ensures in
    record { met = AreMetTo-next d c.args.entries.now c.args.span.now c.args.potentials.now c.args.end.now c.loop-rank.rank c.loop-rank.invariant.met (subst (λ (t : Target). AreMetInto d c.args.entries.now c.args.span.now c.args.potentials.now t) c.nth_target-target.ensures c.in_default.ensures); within = c.first_from-cursor.ensures.within; before = EndBefore-later c.args.entries.now c.args.by_end.now c.nth_target-target.result.begin _ c.first_from-cursor.result c.first_from-cursor.ensures.before (omega (arith, rises, begins)) }

use Rattle.std.proofs.Common.{◌≡◌, sym, ap, ◌∙◌, subst, ℕ, List}
use Rattle.mz_base.specs.declared.conversion.Segment.{Segment}
use Rattle.conversion_meaning.specs.Answers.{segments_of}
use Rattle.conversion_meaning.specs.declared.rules.TheConstants.{RULE_ORDER}
use Rattle.converter.proofs.KeyAnswers.{answer-of_key}
use Rattle.converter.proofs.conversion.convert.Goals as goal

pub returns : goal.returns
returns g c =
    let d = g.D.DataSet.lists c.args.set.now in
    let rows = g.U.UserWords.rows c.args.user.now in
    let lattice = c.in_ok-lattice.lattice in
    let certificate = c.in_ok-certificate.certificate in
    let made = c.in_ok-lattice.ensures in
    let solved = c.in_ok-certificate.ensures in
    let segments : c.from_vec.result ≡ segments_of d rows c.args.history.now RULE_ORDER lattice.key lattice.entries lattice.bounds certificate.path = c.from_vec.ensures ∙ c.in_ok-segments.ensures ∙ ap (segments_of d rows c.args.history.now RULE_ORDER lattice.key lattice.entries lattice.bounds) c.as_slice.ensures in
    answer-of_key d rows c.args.history.now RULE_ORDER lattice (g.met.D.DataSet.sound c.args.set.now) made.made c.args.key.now c.args.bounds.now certificate c.from_vec.result made.key made.bounds (record {
      same_bounds = solved.bounds;
      best = rw c.whole.ensures at solved.best;
      least = rw c.whole.ensures at solved.potentials;
      total_is = rw c.whole.ensures at solved.total;
    }) segments

use Rattle.std.proofs.Common.{pos, rules, to_z, of_z}
use mir.Syntax.{w64}
use mir.Val.{SFits}
use Rattle.std.proofs.lemmas.Int.{to_z-of_z}
use Rattle.cert_check.proofs.LatticeFacts.{AreReady-lattice, least-on_ok}
use Rattle.cert_check.proofs.verdict.check.Goals as goal

pub judge-requires : goal.judge-requires
judge-requires g c =
    rw (c.as_slice-entries.ensures, c.as_slice-by_end.ensures) (AreReady-lattice (g.D.DataSet.lists c.args.set.now) c.args.lattice.now c.args.span.now (to_z w64 (of_z w64 c.args.certificate.now.total)) c.requires.well c.requires.whole)

pub returns-clause-least : goal.returns-clause-least
returns-clause-least g c =
    let fits : SFits w64 c.args.certificate.now.total = search rules in
    least-on_ok (g.D.DataSet.lists c.args.set.now) c.args.lattice.now c.args.span.now c.args.certificate.now.total c.as_slice-entries.result.now c.as_slice-path.result.now c.as_slice-potentials.result.now (record { begin = c.args.span.now.end; lid = c.args.span.now.right; cost = pos 0; potential = to_z w64 (of_z w64 c.args.certificate.now.total) }) c.judge.result c.requires.well c.as_slice-entries.ensures (to_z-of_z w64 c.args.certificate.now.total fits) c.judge.ensures

use Rattle.std.proofs.Common.{sym, ap, refl, ◌∙◌, rules, to_z, of_z}
use mir.Syntax.{w64}
use mir.Val.{SFits}
use Rattle.std.proofs.lemmas.Int.{to_z-of_z}
use Rattle.cert_check.proofs.ClaimLemmas.{all_met, count, first_is}
use Rattle.cert_check.proofs.verdict.judge.Goals as goal

pub returns-then-potentials-entries : goal.returns-then-potentials-entries
returns-then-potentials-entries g c =
    record {
      wanted_is = sym (count (g.D.DataSet.lists c.args.set.now) c.args.entries.now c.args.span.now c.args.path.now c.args.potentials.now c.args.end.now c.requires.all c.requires.last);
      found_is = refl;
      differ = λ e. c.if-potentials-entries.true (sym e);
    }

pub returns-in-Err : goal.returns-in-Err
returns-in-Err g c =
    record {
      count = c.if-potentials-entries.false ∙ sym (count (g.D.DataSet.lists c.args.set.now) c.args.entries.now c.args.span.now c.args.path.now c.args.potentials.now c.args.end.now c.requires.all c.requires.last);
      breaks = c.in-Err.ensures;
    }

pub returns-in-Some : goal.returns-in-Some
returns-in-Some g c =
    record {
      count = c.if-potentials-entries.false ∙ sym (count (g.D.DataSet.lists c.args.set.now) c.args.entries.now c.args.span.now c.args.path.now c.args.potentials.now c.args.end.now c.requires.all c.requires.last);
      joined = c.in-Ok.ensures.0;
      first = first_is (g.D.DataSet.lists c.args.set.now) c.args.entries.now c.args.span.now c.args.path.now c.args.potentials.now c.args.end.now c.requires.all c.requires.last c.in-Some.field-0 c.in-Some.ensures;
    }

pub returns-then-said-found : goal.returns-then-said-found
returns-then-said-found g c =
    let p : SFits w64 c.args.end.now.potential = search rules in
    let q : SFits w64 c.in-Ok.cost = search rules in
    record {
      count = c.if-potentials-entries.false ∙ sym (count (g.D.DataSet.lists c.args.set.now) c.args.entries.now c.args.span.now c.args.path.now c.args.potentials.now c.args.end.now c.requires.all c.requires.last);
      joined = c.in-Ok.ensures.0;
      edges = all_met (g.D.DataSet.lists c.args.set.now) c.args.entries.now c.args.span.now c.args.path.now c.args.potentials.now c.args.end.now c.requires.all c.requires.last c.in_default.ensures;
      said_is = to_z-of_z w64 c.args.end.now.potential p;
      found_is = to_z-of_z w64 c.in-Ok.cost q ∙ c.in-Ok.ensures.1;
      differ = λ e. c.if-said-found.true (ap (of_z w64) (sym (to_z-of_z w64 c.args.end.now.potential p) ∙ (e ∙ to_z-of_z w64 c.in-Ok.cost q)));
    }

pub returns : goal.returns
returns g c =
    let p : SFits w64 c.args.end.now.potential = search rules in
    let q : SFits w64 c.in-Ok.cost = search rules in
    record {
      count = c.if-potentials-entries.false ∙ sym (count (g.D.DataSet.lists c.args.set.now) c.args.entries.now c.args.span.now c.args.path.now c.args.potentials.now c.args.end.now c.requires.all c.requires.last);
      joined = c.in-Ok.ensures.0;
      edges = all_met (g.D.DataSet.lists c.args.set.now) c.args.entries.now c.args.span.now c.args.path.now c.args.potentials.now c.args.end.now c.requires.all c.requires.last c.in_default.ensures;
      sum = sym (to_z-of_z w64 c.args.end.now.potential p) ∙ (ap (to_z w64) c.if-said-found.false ∙ (to_z-of_z w64 c.in-Ok.cost q ∙ c.in-Ok.ensures.1));
    }

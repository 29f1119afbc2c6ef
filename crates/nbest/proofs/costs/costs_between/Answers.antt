use Rattle.std.proofs.Common.{◌≡◌, refl, ◌∙◌, ◌≤◌, Bool, true, false, cond, arith}
use mir.Val.{bool_byte}
use Rattle.conversion_meaning.specs.Lattices.{entry}
use Rattle.conversion_meaning.specs.Potentials.{is_in}
use Rattle.nbest.proofs.SignedLemmas.{kept}
use Rattle.nbest.proofs.CostLemmas.{by_ordinal-all, by_ordinal-next}
use Rattle.nbest.proofs.costs.costs_between.Goals as goal

counted : (b : Bool) → bool_byte b ≡ cond b 1 0
counted true = refl
counted false = refl

few : (b : Bool) → cond b 1 0 ≤ 1
few true = omega arith
few false = omega arith

pub loop-o-preserved : goal.loop-o-preserved
loop-o-preserved c =
    let b = c.is_in-inside.result in
    let added : c.from-next.result ≡ cond b 1 0 = c.from-next.ensures ∙ counted b in
    record {
      few = (let one = few b in let low = c.loop-o.invariant.few in omega (arith, added, one, low));
      made = by_ordinal-next (λ o. is_in c.args.span.now (entry c.args.entries.now o)) c.args.potentials.now b c.loop-o.o _ c.loop-o.next c.from-next.result c.loop-o.costs.items c.push.new.self.items _ _ c.loop-o-test.true c.is_in-inside.ensures added (kept c.cost_at.result c.cost_at.type_inv ∙ c.cost_at.ensures) c.in_ok-push.ensures.items c.loop-o.invariant.made;
    }

pub returns : goal.returns
returns c =
    by_ordinal-all (λ o. is_in c.args.span.now (entry c.args.entries.now o)) c.args.potentials.now c.loop-o.o _ c.loop-o.next c.loop-o.costs.items _ c.loop-o-test.false c.loop-o.invariant.made

use Rattle.std.proofs.Common.{◌≡◌, ◌∙◌, ◌++◌, ◌∷◌, List, [], sym, subst, rules}
use Rattle.std.proofs.lemmas.Iterator.Adapters.{YieldsList-from_vec}
use Rattle.std.proofs.lemmas.Iterator.Consumers.{YieldsList-end}
use Rattle.std.proofs.lemmas.List.{map-id}
use Rattle.core_steps.specs.Standings.{AreFirst}
use Rattle.core_steps.proofs.StandingLemmas.{first_more, first_none}
use Rattle.core_steps.specs.declared.standing.Standing.{Standing}
use Rattle.core_steps.proofs.beginning.standings.Goals as goal

pub loop-plan-init : goal.loop-plan-init
loop-plan-init c = first_none c.new-made.result.items c.new-made.ensures.items

pub loop-plan-preserved : goal.loop-plan-preserved
loop-plan-preserved c =
    let more = first_more c.loop-plan.yielded c.loop-plan.made.items c.in-Some.plan c.in_ok-new.field-0 c.loop-plan.invariant c.in_ok-new.ensures in
    subst (AreFirst (c.loop-plan.yielded ++ c.in-Some.plan ∷ [])) (sym {A = List Standing} c.in_ok-push.ensures.items) more

pub returns : goal.returns
returns c =
    let plans = c.args.plans.items in
    let end = YieldsList-end (YieldsList-from_vec plans (search rules) (search rules)) c.loop-plan.yielded c.loop-plan.plan-iterator c.loop-plan.yielded_by c.next.result c.next.new.self c.in-None.is c.next.ensures.steps in
    let all : c.loop-plan.yielded ≡ plans = sym (map-id c.loop-plan.yielded) ∙ end.0 in
    subst (λ given. AreFirst given c.loop-plan.made.items) all c.loop-plan.invariant

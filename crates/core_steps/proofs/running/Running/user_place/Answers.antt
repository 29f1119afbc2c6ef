use Rattle.std.proofs.Common.{◌≡◌, ap, ◌∙◌, suc, ◌+◌, arith}
use Rattle.run_meaning.specs.Worlds.{ClientPlan, user_of}
use Rattle.core_steps.proofs.KeptLemmas.{user-within}
use Rattle.core_steps.proofs.running.Running.user_place.Goals as goal

pub overflow_sub-result : goal.overflow_sub-result
overflow_sub-result g c =
    let kept = c.args.self.now in
    let user : c.user.result ≡ user_of kept.world (suc c.args.place) = c.user.ensures ∙ ap (λ (p : ClientPlan). p.user) c.client.ensures.plan in
    let some = (user-within kept c.requires.kept c.args.place c.requires.within).0 in
    omega (arith, user, some)

pub returns-clause-within : goal.returns-clause-within
returns-clause-within g c =
    let kept = c.args.self.now in
    let user : c.user.result ≡ user_of kept.world (suc c.args.place) = c.user.ensures ∙ ap (λ (p : ClientPlan). p.user) c.client.ensures.plan in
    let parts = user-within kept c.requires.kept c.args.place c.requires.within in
    let some = parts.0 in
    let most = parts.1 in
    omega (arith, user, some, most)

pub returns-clause-is : goal.returns-clause-is
returns-clause-is g c =
    let kept = c.args.self.now in
    let user : c.user.result ≡ user_of kept.world (suc c.args.place) = c.user.ensures ∙ ap (λ (p : ClientPlan). p.user) c.client.ensures.plan in
    let some = (user-within kept c.requires.kept c.args.place c.requires.within).0 in
    let number : suc c.args.place ≡ c.args.place + 1 = omega arith in
    let same = ap (user_of kept.world) number in
    omega (arith, user, some, same)

use Rattle.std.proofs.Common.{rules, refl, true}
use Rattle.mz_base.specs.declared.event.Event.TheVariants as event
use Rattle.run_meaning.specs.Deeds.{Steps}
use Rattle.run_meaning.proofs.EventKinds.{stepping}
use Rattle.core_steps.specs.Kepts.{MayDo}
use Rattle.core_steps.proofs.DeedLemmas.{kept-done, made-done}
use Rattle.core_steps.proofs.running.Running.carry_out.Goals as goal

pub returns-clause-kept : goal.returns-clause-kept
returns-clause-kept g c =
    let kept = c.args.self.now in
    let can : MayDo kept c.args.client c.in_ok-place.place Steps = search rules in
    kept-done kept c.do_step.new.self c.requires c.args.client c.in_ok-place.place (event.Step c.args.client) true Steps can stepping refl c.in_ok-do_step.ensures.ok

pub returns-clause-stepped : goal.returns-clause-stepped
returns-clause-stepped g c =
    let kept = c.args.self.now in
    let can : MayDo kept c.args.client c.in_ok-place.place Steps = search rules in
    made-done kept c.do_step.new.self c.requires c.args.client c.in_ok-place.place (event.Step c.args.client) true Steps can stepping refl c.in_ok-do_step.ensures.ok

use Rattle.std.proofs.Common.{rules}
use Rattle.mz_base.specs.declared.event.Event.TheVariants as event
use Rattle.std.specs.Prelude.{IsTrue}
use Rattle.run_meaning.specs.Deeds.{Awaits}
use Rattle.run_meaning.specs.Jobs.{is_published}
use Rattle.run_meaning.proofs.EventKinds.{awaiting}
use Rattle.core_steps.specs.Kepts.{MayDo}
use Rattle.core_steps.proofs.DeedLemmas.{kept-done, made-done}
use Rattle.core_steps.proofs.running.Running.awaits.Goals as goal

pub returns-clause-kept : goal.returns-clause-kept
returns-clause-kept g c =
    let kept = c.args.self.now in
    let can : MayDo kept c.args.client c.in_ok-place.place (Awaits c.args.job) = search rules in
    let stands : IsTrue (is_published kept.state.logs.jobs c.args.job) = search rules in
    kept-done kept c.do_await.new.self c.requires c.args.client c.in_ok-place.place (event.Await c.args.client c.args.job) (is_published kept.state.logs.jobs c.args.job) (Awaits c.args.job) can (awaiting c.args.job) stands c.in_ok-do_await.ensures.ok

pub returns-clause-stepped : goal.returns-clause-stepped
returns-clause-stepped g c =
    let kept = c.args.self.now in
    let can : MayDo kept c.args.client c.in_ok-place.place (Awaits c.args.job) = search rules in
    let stands : IsTrue (is_published kept.state.logs.jobs c.args.job) = search rules in
    made-done kept c.do_await.new.self c.requires c.args.client c.in_ok-place.place (event.Await c.args.client c.args.job) (is_published kept.state.logs.jobs c.args.job) (Awaits c.args.job) can (awaiting c.args.job) stands c.in_ok-do_await.ensures.ok

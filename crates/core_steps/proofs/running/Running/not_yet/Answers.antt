use Rattle.std.proofs.Common.{rules}
use Rattle.mz_base.specs.declared.event.Event.TheVariants as event
use Rattle.std.specs.Prelude.{IsTrue}
use Rattle.run_meaning.specs.Deeds.{FindsNone}
use Rattle.run_meaning.specs.Jobs.{newest}
use Rattle.run_meaning.proofs.EventKinds.{finding_none}
use Rattle.core_steps.specs.Kepts.{MayDo}
use Rattle.core_steps.proofs.DeedLemmas.{kept-done, made-done}
use Rattle.core_steps.proofs.running.Running.not_yet.Goals as goal

pub returns-clause-kept : goal.returns-clause-kept
returns-clause-kept g c =
    let kept = c.args.self.now in
    let can : MayDo kept c.args.client c.in_ok-place.place (FindsNone (newest kept.state.logs.jobs)) = search rules in
    let stands : IsTrue kept.state.logs.closed = search rules in
    kept-done kept c.do_not_yet.new.self c.requires c.args.client c.in_ok-place.place (event.NotYet c.args.client) kept.state.logs.closed (FindsNone (newest kept.state.logs.jobs)) can finding_none stands c.in_ok-do_not_yet.ensures.ok

pub returns-clause-stepped : goal.returns-clause-stepped
returns-clause-stepped g c =
    let kept = c.args.self.now in
    let can : MayDo kept c.args.client c.in_ok-place.place (FindsNone (newest kept.state.logs.jobs)) = search rules in
    let stands : IsTrue kept.state.logs.closed = search rules in
    made-done kept c.do_not_yet.new.self c.requires c.args.client c.in_ok-place.place (event.NotYet c.args.client) kept.state.logs.closed (FindsNone (newest kept.state.logs.jobs)) can finding_none stands c.in_ok-do_not_yet.ensures.ok

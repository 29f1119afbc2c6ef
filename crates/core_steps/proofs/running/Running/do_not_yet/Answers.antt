use Rattle.std.proofs.Common.{◌≡◌, refl, sym, ap, ◌∙◌, Some}
use Rattle.mz_base.specs.declared.event.Event.TheVariants as event
use Rattle.run_meaning.specs.Deeds.{FindsNone, not_yet_line}
use Rattle.run_meaning.specs.Jobs.{newest}
use Rattle.run_meaning.specs.States.{Progress, client_at}
use Rattle.core_steps.specs.Additions.{beside_of, own_of}
use Rattle.core_steps.specs.Helds.{over_with}
use Rattle.core_steps.specs.declared.addition.Beside.TheVariants as beside
use Rattle.core_steps.proofs.DeedLemmas.{deed-done, progress-there, same-beside}
use Rattle.core_steps.proofs.running.Running.do_not_yet.Goals as goal

pub returns-clause-ok : goal.returns-clause-ok
returns-clause-ok g c =
    let kept = c.args.self.now in
    let client = c.args.client in
    let place = c.args.place in
    let there = c.requires.may.stands in
    let shown : c.in_ok-line.line ≡ not_yet_line (client_at kept.state client).progress.session (newest kept.state.logs.jobs) = c.in_ok-line.ensures ∙ (ap (not_yet_line c.client.result.now.progress.session) c.newest-newest.ensures ∙ ap (λ (p : Progress). not_yet_line p.session (newest kept.state.logs.jobs)) (c.client.ensures.progress ∙ sym (progress-there kept.state client place there.number))) in
    deed-done kept c.requires.kept client place there (event.NotYet client) (FindsNone (newest kept.state.logs.jobs)) (own_of (event.NotYet client) (FindsNone (newest kept.state.logs.jobs))) (Some c.in_ok-line.line) beside.Nothing (λ (p : Progress). over_with p p.session) refl (ap Some shown) (same-beside kept place beside.Nothing (beside_of (client_at kept.state client) (FindsNone (newest kept.state.logs.jobs))) refl) refl c.note.new.self c.pass.new.self c.in_ok-note.ensures.ok c.pass.ensures

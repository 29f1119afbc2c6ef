use Rattle.std.proofs.Common.{◌≡◌, refl, sym, ap, ◌∙◌, Some}
use Rattle.mz_base.specs.declared.event.Event.TheVariants as event
use Rattle.run_meaning.specs.Deeds.{Awaits, awaited_line}
use Rattle.run_meaning.specs.States.{Progress, client_at}
use Rattle.core_steps.specs.Additions.{beside_of, own_of}
use Rattle.core_steps.specs.Helds.{over_with}
use Rattle.core_steps.specs.declared.addition.Beside.TheVariants as beside
use Rattle.core_steps.proofs.DeedLemmas.{deed-done, progress-there, same-beside}
use Rattle.core_steps.proofs.running.Running.do_await.Goals as goal

pub returns-clause-ok : goal.returns-clause-ok
returns-clause-ok g c =
    let kept = c.args.self.now in
    let client = c.args.client in
    let place = c.args.place in
    let there = c.requires.may.stands in
    let shown : c.in_ok-line.line ≡ awaited_line (client_at kept.state client).progress.session c.args.job = c.in_ok-line.ensures ∙ ap (λ (p : Progress). awaited_line p.session c.args.job) (c.client.ensures.progress ∙ sym (progress-there kept.state client place there.number)) in
    deed-done kept c.requires.kept client place there (event.Await client c.args.job) (Awaits c.args.job) (own_of (event.Await client c.args.job) (Awaits c.args.job)) (Some c.in_ok-line.line) beside.Nothing (λ (p : Progress). record (over_with p p.session) { seen = c.args.job }) refl (ap Some shown) (same-beside kept place beside.Nothing (beside_of (client_at kept.state client) (Awaits c.args.job)) refl) refl c.note.new.self c.awaited.new.self c.in_ok-note.ensures.ok c.awaited.ensures

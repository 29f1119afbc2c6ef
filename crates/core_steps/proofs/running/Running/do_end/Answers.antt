use Rattle.std.proofs.Common.{◌≡◌, refl, sym, ap, ◌∙◌, true, None}
use Rattle.mz_base.specs.declared.event.Event.TheVariants as event
use Rattle.mz_base.specs.declared.logs.UserEntry.TheVariants as entry
use Rattle.run_meaning.specs.Deeds.{Ends}
use Rattle.run_meaning.specs.States.{Progress, client_at}
use Rattle.core_steps.specs.Additions.{beside_of, own_of}
use Rattle.core_steps.specs.declared.addition.Beside.TheVariants as beside
use Rattle.core_steps.proofs.DeedLemmas.{deed-done, end-beside, progress-there, same-beside}
use Rattle.core_steps.proofs.running.Running.do_end.Goals as goal

pub returns-clause-ok : goal.returns-clause-ok
returns-clause-ok g c =
    let kept = c.args.self.now in
    let client = c.args.client in
    let place = c.args.place in
    let there = c.requires.may.stands in
    let learns : c.learns-count.result ≡ (client_at kept.state client).progress.learns = c.learns-count.ensures ∙ ap (λ (p : Progress). p.learns) (c.client.ensures.progress ∙ sym (progress-there kept.state client place there.number)) in
    let made = beside.Entry (entry.End client c.learns-count.result) in
    let entered = ap (λ n. beside.Entry (entry.End client n)) learns ∙ sym (end-beside kept.state client) in
    deed-done kept c.requires.kept client place there (event.End client) Ends (own_of (event.End client) Ends) None made (λ (p : Progress). record p { ended = true }) refl refl (same-beside kept place made (beside_of (client_at kept.state client) Ends) entered) refl c.note.new.self c.ended.new.self c.in_ok-note.ensures.ok c.ended.ensures

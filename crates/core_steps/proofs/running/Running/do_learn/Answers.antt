use Rattle.std.proofs.Common.{refl, sym, ap, ◌∙◌, true, ◌+◌, None}
use Rattle.mz_base.specs.declared.event.Event.TheVariants as event
use Rattle.mz_base.specs.declared.logs.UserEntry.TheVariants as entry
use Rattle.run_meaning.specs.Deeds.{Learns, pairs_of}
use Rattle.run_meaning.specs.States.{Progress, client_at}
use Rattle.core_steps.specs.Additions.{beside_of, own_of}
use Rattle.core_steps.specs.declared.addition.Beside.TheVariants as beside
use Rattle.core_steps.proofs.DeedLemmas.{deed-done, learn-beside, progress-there, same-beside}
use Rattle.core_steps.proofs.running.Running.do_learn.Goals as goal

pub returns-clause-ok : goal.returns-clause-ok
returns-clause-ok g c =
    let kept = c.args.self.now in
    let client = c.args.client in
    let place = c.args.place in
    let there = c.requires.may.stands in
    let made = beside.Entry c.in_ok-entry.entry in
    let entered = ap beside.Entry (c.in_ok-entry.ensures ∙ ap (λ (p : Progress). entry.Learn client (p.learns + 1) (pairs_of p.session p.rest)) (sym (progress-there kept.state client place there.number))) ∙ sym (learn-beside kept.state client) in
    deed-done kept c.requires.kept client place there (event.Learn client) Learns (own_of (event.Learn client) Learns) None made (λ (p : Progress). record p { learned = true; learns = p.learns + 1 }) refl refl (same-beside kept place made (beside_of (client_at kept.state client) Learns) entered) refl c.note.new.self c.learned.new.self c.in_ok-note.ensures.ok c.learned.ensures

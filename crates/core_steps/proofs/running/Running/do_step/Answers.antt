use Rattle.std.proofs.Common.{◌≡◌, refl, sym, ap, ◌∙◌, ◌+◌, ◌-◌, rules, Some, None}
use Rattle.std.proofs.lemmas.Bool.{true≢false}
use Rattle.mz_base.specs.declared.event.Event.TheVariants as event
use Rattle.session_meaning.specs.Steps.{Stepped}
use Rattle.run_meaning.specs.Deeds.{Steps, certified_by}
use Rattle.run_meaning.specs.States.{Progress, client_at}
use Rattle.run_meaning.specs.Worlds.{user_of}
use Rattle.core_steps.specs.Additions.{beside_certificate, beside_of, own_of, with_beside}
use Rattle.core_steps.specs.Helds.{may_step, over_with, stepped_by}
use Rattle.core_steps.specs.Kepts.{progress_at}
use Rattle.core_steps.proofs.DeedLemmas.{AreBeside, deed-done, may-step, progress-there}
use Rattle.core_steps.proofs.StepLemmas.{line-stepped, moved-stepped, none-stepped}
use Rattle.core_steps.proofs.running.Running.do_step.Goals as goal

pub unreachable-requires : goal.unreachable-requires
unreachable-requires g c =
    let kept = c.args.self.now in
    let there = c.requires.may.stands in
    let nothing : stepped_by c.client.result.now.progress ≡ None = search rules in
    let none = none-stepped c.client.result.now.progress nothing in
    true≢false (sym c.requires.may.may_come ∙ (may-step kept c.args.client c.args.place there.number ∙ (ap may_step (sym c.client.ensures.progress) ∙ none)))

pub returns-clause-ok : goal.returns-clause-ok
returns-clause-ok g c =
    let kept = c.args.self.now in
    let client = c.args.client in
    let place = c.args.place in
    let there = c.requires.may.stands in
    let made : Stepped = record { session = c.in-Some.made.session; line = c.in-Some.made.line } in
    let here : stepped_by (progress_at kept place) ≡ Some made = search rules in
    let stepped : stepped_by (client_at kept.state client).progress ≡ Some made = ap stepped_by (progress-there kept.state client place there.number) ∙ here in
    let line = line-stepped (client_at kept.state client) made stepped in
    let user = user_of kept.world (place + 1) - 1 in
    let beside : AreBeside kept place c.in_ok-beside.beside (beside_of (client_at kept.state client) Steps) = λ logs same. c.in_ok-beside.ensures logs user same ∙ ap (λ (p : Progress). with_beside logs user (beside_certificate (certified_by (client_at kept.state client) p.rest))) (sym (progress-there kept.state client place there.number)) in
    let moves = moved-stepped (client_at kept.state client) made stepped in
    deed-done kept c.requires.kept client place there (event.Step client) Steps (own_of (event.Step client) Steps) (Some made.line) c.in_ok-beside.beside (λ (p : Progress). over_with p made.session) refl line beside moves c.note.new.self c.over.new.self c.in_ok-note.ensures.ok c.over.ensures

use Rattle.std.proofs.Common.{◌≡◌, ◌+◌, sym, ap, ◌∙◌, length}
use Rattle.std.specs.Prelude.{Some}
use Rattle.mz_base.specs.declared.logs.ClientLog.{ClientLog}
use Rattle.session_meaning.specs.Steps.{Stepped}
use Rattle.run_meaning.specs.Deeds.{certificate_after, certified_by}
use Rattle.run_meaning.specs.States.{Progress, client_at}
use Rattle.core_steps.specs.Additions.{beside_certificate, with_beside}
use Rattle.core_steps.specs.Helds.{stepped_by}
use Rattle.core_steps.proofs.DeedLemmas.{log-there, number-there, progress-there}
use Rattle.core_steps.proofs.StepLemmas.{certified-stepped}
use Rattle.core_steps.proofs.running.Running.certificate.Goals as goal

pub returns : goal.returns
returns g c =
    let kept = c.args.self.now in
    let client = c.args.client in
    let number = c.requires.may.stands.number in
    let session = c.args.made.now.session in
    let made : Stepped = record { session = session; line = c.args.made.now.line } in
    let progress = progress-there kept.state client c.args.place number in
    let stepped : stepped_by (client_at kept.state client).progress ≡ Some made = ap stepped_by progress ∙ c.requires.made in
    let count = ap (λ (log : ClientLog). length log.lines + 1) (log-there kept.state client c.args.place number) in
    let after = certified-stepped (client_at kept.state client) made stepped ∙ (ap (λ n. certificate_after n (length (client_at kept.state client).log.lines + 1) session) (number-there kept.state client) ∙ ap (λ n. certificate_after client n session) (count ∙ sym c.command_number-number.ensures)) in
    let here = ap (λ (p : Progress). certified_by (client_at kept.state client) p.rest) progress in
    λ logs user same. ap (with_beside logs user) (c.beside_certificate.ensures ∙ ap beside_certificate (c.in_ok-certificate.ensures ∙ (sym after ∙ here)))

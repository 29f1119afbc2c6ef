use Rattle.std.proofs.Common.{◌+◌, refl, ap, get_or, not, subst, sym, ◌∙◌}
use Rattle.std.specs.Prelude.{◌&&◌}
use Rattle.run_meaning.specs.Numbers.{is_number}
use Rattle.run_meaning.specs.States.{journal_of}
use Rattle.run_meaning.specs.Users.{is_entered}
use Rattle.core_steps.specs.Kepts.{Kept}
use Rattle.core_steps.specs.Standings.{IsCaught}
use Rattle.core_steps.specs.declared.standing.Standing.{Standing}
use Rattle.core_steps.proofs.ComingLemmas.{caught-there, reloads-at}
use Rattle.core_steps.proofs.running.Running.awaits_reload.Goals as goal

pub returns-then-has_reload : goal.returns-then-has_reload
returns-then-has_reload g c =
    let now = c.args.self.now in
    let place = c.args.place in
    let reload = c.args.reload in
    let user = c.index-user.result.now in
    let at = c.index-user.ensures ∙ ap (λ (k : Kept). get_or k.users place user) c.self.view_is in
    let caught = subst (λ (u : Standing). IsCaught (journal_of now.state (place + 1)) u) (sym at) (caught-there now place (place + 1) user c.requires.kept refl c.requires.within) in
    let plan = reloads-at now place (place + 1) user c.requires.kept refl c.requires.within ∙ ap (λ (u : Standing). u.plan.reloads) (sym at) in
    let numbered = ap (λ reloads. is_number reloads reload) plan ∙ (sym c.has_reload.ensures ∙ c.if-has_reload.true) in
    ap not (c.is_entered.ensures _ caught) ∙ ap (λ b. b && not (is_entered (journal_of now.state (place + 1)) reload)) (sym numbered)

use Rattle.std.proofs.Common.{ap, get_or, subst, sym, ◌∙◌}
use Rattle.core_steps.specs.Comings.{ReloadMayCome, with_reload_now}
use Rattle.core_steps.specs.Kepts.{IsKept, Kept, ran}
use Rattle.core_steps.proofs.ComingLemmas.{kept-reload, ran-reload, reload-fits}
use Rattle.core_steps.proofs.running.Running.do_reload.Goals as goal

pub note-requires-clause-to : goal.note-requires-clause-to
note-requires-clause-to g c =
    let now = c.args.self.now in
    let user = c.index_mut.result.now in
    let at = c.index_mut.ensures.value ∙ ap (λ (k : Kept). get_or k.users c.args.place user) c.self.view_is in
    reload-fits now c.args.user c.args.reload c.args.place user c.requires.kept c.requires.may at

pub returns-clause-kept : goal.returns-clause-kept
returns-clause-kept g c =
    let view = sym c.self.view_is in
    let kept = subst (λ (k : Kept). IsKept k) view c.requires.kept in
    let may = subst (λ (k : Kept). ReloadMayCome k c.args.user c.args.reload c.args.place) view c.requires.may in
    rw c.in_ok-note_reload.ensures.ok (kept-reload _ c.args.user c.args.reload c.args.place c.index_mut.result.now c.note.new.self c.index_mut.ensures.value c.note.ensures.plan may kept c.note.ensures.kept)

pub returns-clause-ok : goal.returns-clause-ok
returns-clause-ok g c =
    let view = sym c.self.view_is in
    let kept = subst (λ (k : Kept). IsKept k) view c.requires.kept in
    let may = subst (λ (k : Kept). ReloadMayCome k c.args.user c.args.reload c.args.place) view c.requires.may in
    rw c.in_ok-note_reload.ensures.ok (ran-reload _ c.args.user c.args.reload c.args.place c.index_mut.result.now c.note.new.self c.index_mut.ensures.value c.note.ensures.plan may kept ∙ ap (λ (k : Kept). with_reload_now (ran k) c.args.user c.args.reload) c.self.view_is)

use Rattle.std.proofs.Common.{◌<◌, List, ap, subst, sym, ◌∙◌, length, slice_index_or}
use Rattle.std.proofs.lemmas.List.{get_or_default}
use Rattle.mz_base.specs.declared.logs.ClientLog.{ClientLog}
use Rattle.run_meaning.specs.States.{no_client_log}
use Rattle.core_steps.specs.Kepts.{Kept}
use Rattle.core_steps.proofs.KeptLemmas.{log-within}
use Rattle.core_steps.proofs.running.Running.client_log.Goals as goal

pub bounds-as_slice-place : goal.bounds-as_slice-place
bounds-as_slice-place g c =
    let logs = c.as_slice.ensures ∙ ap (λ (k : Kept). k.state.logs.clients) c.self.view_is in
    subst (λ (items : List ClientLog). c.args.place < length items) (sym logs) (log-within c.args.self.now c.requires.kept c.args.place c.requires.within)

pub returns : goal.returns
returns g c =
    let kept = c.args.self.now in
    let place = c.args.place in
    let found = c.index-as_slice-place.result in
    let logs = c.as_slice.ensures ∙ ap (λ (k : Kept). k.state.logs.clients) c.self.view_is in
    c.index-as_slice-place.is
    ∙ (ap (λ (items : List ClientLog). slice_index_or items place found) logs
    ∙ get_or_default kept.state.logs.clients place found no_client_log (log-within kept c.requires.kept place c.requires.within))

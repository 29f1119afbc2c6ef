use Rattle.std.proofs.Common.{◌<◌, ◌+◌, List, sym, ap, ◌∙◌, arith, length, slice_index_or}
use Rattle.std.proofs.lemmas.List.{get_or_default}
use Rattle.mz_base.specs.declared.logs.UserLog.{UserLog}
use Rattle.run_meaning.specs.States.{no_user_log}
use Rattle.run_meaning.specs.Worlds.{user_of}
use Rattle.core_steps.specs.Kepts.{Kept}
use Rattle.core_steps.proofs.SetLemmas.{journal-there}
use Rattle.core_steps.proofs.running.Running.journal.Goals as goal

pub returns : goal.returns
returns g c =
    let kept = c.args.self.now in
    let user = c.user_place-user.result in
    let found = c.index-as_slice-user.result in
    let logs = c.as_slice.ensures ∙ ap (λ (k : Kept). k.state.logs.users) c.self.view_is in
    let there = c.user_place-user.ensures.within in
    let many = c.requires.kept.caught.count in
    let within : user < length kept.state.logs.users = omega (arith, there, many) in
    c.as_slice-2.ensures
    ∙ (ap (λ (items : List UserLog). (slice_index_or items user found).entries) logs
    ∙ (ap (λ (log : UserLog). log.entries) (get_or_default kept.state.logs.users user found no_user_log within)
    ∙ sym (journal-there kept.state (user_of kept.world (c.args.place + 1)) user c.user_place-user.ensures.is)))

use Rattle.std.proofs.Common.{◌≡◌, ◌<◌, ◌+◌, List, sym, ap, subst, ◌∙◌, arith, length, map, slice_index_or}
use Rattle.std.specs.Prelude.{IsOk}
use Rattle.std.specs.Arc.{arc_value}
use Rattle.std.proofs.lemmas.List.{get_or_default}
use Rattle.mz_base.specs.declared.logs.UserEntry.{UserEntry}
use Rattle.mz_base.specs.declared.logs.UserLog.{UserLog}
use Rattle.run_meaning.specs.Numbers.{at_number}
use Rattle.run_meaning.specs.States.{journal_of, no_user_log}
use Rattle.run_meaning.specs.Users.{history_of, rows_of}
use Rattle.run_meaning.specs.Worlds.{lists_in, lists_of, no_job, user_of}
use Rattle.run_meaning.proofs.LogAnswers.{published_read}
use Rattle.core_steps.specs.JobFiles.{lists_read}
use Rattle.core_steps.specs.Kepts.{AreCaught, IsKept, Kept}
use Rattle.core_steps.specs.Standings.{IsCaught}
use Rattle.core_steps.proofs.SetLemmas.{journal-there}
use Rattle.core_steps.proofs.UserLemmas.{caught-there, if-ok-then, reloads-there, user-kept, user-moved}
use Rattle.core_steps.proofs.running.Running.pinned.Goals as goal

pub set_at-set-requires : goal.set_at-set-requires
set_at-set-requires g c =
    let kept = c.args.self.now in
    let reads = published_read kept.world kept.state.logs.events kept.state c.args.job c.requires.kept.played c.requires.published in
    let there : IsOk (at_number no_job (map (lists_read (λ set. g.D.DataSet.lists (arc_value set))) c.self.inside.jobs.items) c.args.job) = subst (λ (k : Kept). IsOk (at_number no_job k.world.jobs c.args.job)) (sym c.self.view_is) reads in
    subst (λ items. IsOk (at_number no_job (map (lists_read (λ set. g.D.DataSet.lists (arc_value set))) items) c.args.job)) (sym c.as_slice.ensures.value) there

pub pinned-requires : goal.pinned-requires
pinned-requires g c =
    let user = c.user_place-user.result in
    let found = c.index-as_slice-user.result in
    let caught : AreCaught c.self.inside.logs.users c.self.inside.users.items = (subst IsKept (sym c.self.view_is) c.requires.kept).caught in
    let there = subst (λ (k : Kept). user < length k.users) (sym c.self.view_is) c.user_place-user.ensures.within in
    let log : found ≡ slice_index_or c.self.inside.logs.users user found = c.index-as_slice-user.is ∙ ap (λ (items : List UserLog). slice_index_or items user found) c.as_slice-2.ensures in
    let journal = c.as_slice-journal.ensures ∙ ap (λ (l : UserLog). l.entries) (sym c.index-as_slice-user.is) in
    subst (λ (j : List UserEntry). IsCaught j c.index_mut.result.now) (sym journal) (caught-there c.self.inside.logs.users c.self.inside.users.items user found c.index_mut.result.now caught log c.index_mut.ensures.value there)

pub returns-clause-kept : goal.returns-clause-kept
returns-clause-kept g c =
    let user = c.user_place-user.result in
    let found = c.index-as_slice-user.result in
    let log : found ≡ slice_index_or c.self.inside.logs.users user found = c.index-as_slice-user.is ∙ ap (λ (items : List UserLog). slice_index_or items user found) c.as_slice-2.ensures in
    let journal = c.as_slice-journal.ensures ∙ ap (λ (l : UserLog). l.entries) (sym c.index-as_slice-user.is) in
    let caught = subst (λ (j : List UserEntry). IsCaught j c.pinned.new.self) journal c.pinned.ensures.kept in
    user-kept _ _ c.self.inside.users.items _ c.self.inside.logs c.args.self.now c.self.view_is user c.index_mut.result.now c.pinned.new.self c.index_mut.ensures.value c.pinned.ensures.plan c.requires.kept found log caught

pub returns-clause-beside : goal.returns-clause-beside
returns-clause-beside g c =
    user-moved _ _ c.self.inside.users.items _ c.self.inside.logs c.args.self.now c.self.view_is c.user_place-user.result c.index_mut.result.now c.pinned.new.self c.index_mut.ensures.value c.pinned.ensures.plan

pub returns-clause-data : goal.returns-clause-data
returns-clause-data g c =
    let kept = c.args.self.now in
    let number = user_of kept.world (c.args.place + 1) in
    let user = c.user_place-user.result in
    let found = c.index-as_slice-user.result in
    let within = c.user_place-user.ensures.within in
    let many = c.requires.kept.caught.count in
    let in_logs : user < length kept.state.logs.users = omega (arith, within, many) in
    let here = subst (λ (k : Kept). user < length k.users) (sym c.self.view_is) within in
    let log : found ≡ slice_index_or kept.state.logs.users user found = c.index-as_slice-user.is ∙ ap (λ (items : List UserLog). slice_index_or items user found) (c.as_slice-2.ensures ∙ ap (λ (k : Kept). k.state.logs.users) c.self.view_is) in
    let journal : c.as_slice-journal.result.now ≡ journal_of kept.state number = c.as_slice-journal.ensures ∙ (ap (λ (l : UserLog). l.entries) (sym c.index-as_slice-user.is ∙ (log ∙ get_or_default kept.state.logs.users user found no_user_log in_logs)) ∙ sym (journal-there kept.state number user c.user_place-user.ensures.is)) in
    let lists = c.set_at-set.ensures ∙ (ap (λ items. lists_in (at_number no_job (map (lists_read (λ set. g.D.DataSet.lists (arc_value set))) items) c.args.job)) c.as_slice.ensures.value ∙ ap (λ (k : Kept). lists_of k.world c.args.job) c.self.view_is) in
    let reloads = reloads-there _ _ c.self.inside.users.items _ c.self.inside.logs kept c.self.view_is user c.index_mut.result.now c.pinned.new.self c.index_mut.ensures.value c.pinned.ensures.plan number c.user_place-user.ensures.is here in
    if-ok-then c.pinned.result (λ pinned is. is ∙ (λ i. record { version = c.args.job; lists = lists i; history = history_of (journal i); rows = rows_of (reloads i) (journal i) })) c.pinned.ensures.taken

use Rattle.std.proofs.Common.{◌≡◌, List, ap, subst, ◌∙◌, ◌+◌, ◌-◌, None}
use Rattle.mz_base.specs.declared.event.Event.TheVariants as event
use Rattle.run_meaning.specs.Worlds.{user_of}
use Rattle.core_steps.specs.declared.addition.Beside.TheVariants as beside
use Rattle.core_steps.specs.Kepts.{IsKept, Kept, logs_after, with_users}
use Rattle.core_steps.specs.declared.standing.Standing.{Standing}
use Rattle.core_steps.proofs.TakeLemmas.{take-kept, take-made}
use Rattle.core_steps.proofs.running.Running.do_take.Goals as goal

pub returns-clause-kept : goal.returns-clause-kept
returns-clause-kept g c =
    let old = c.args.self.now in
    let users : List Standing = c.pinned.new.self.users in
    let here : c.pinned.new.self ≡ with_users old users = c.in_ok-taken.ensures.beside in
    let is = subst IsKept here c.in_ok-taken.ensures.kept in
    let noted = c.in_ok-note.ensures.ok in
    take-kept old users c.args.client c.args.place c.args.job c.requires.may is c.in_ok-taken.taken c.entries.result c.in_ok-taken.ensures.data c.entries.ensures c.note.new.self c.took.new.self (noted ∙ ap (λ (k : Kept). logs_after k c.args.place (user_of k.world (c.args.place + 1) - 1) (record { event = event.Take c.args.client c.args.job; prefix = c.entries.result }) None beside.Nothing) here) c.took.ensures

pub returns-clause-ok : goal.returns-clause-ok
returns-clause-ok g c =
    let old = c.args.self.now in
    let users : List Standing = c.pinned.new.self.users in
    let here : c.pinned.new.self ≡ with_users old users = c.in_ok-taken.ensures.beside in
    let is = subst IsKept here c.in_ok-taken.ensures.kept in
    let noted = c.in_ok-note.ensures.ok in
    take-made old users c.args.client c.args.place c.args.job c.requires.may is c.in_ok-taken.taken c.entries.result c.in_ok-taken.ensures.data c.entries.ensures c.note.new.self c.took.new.self (noted ∙ ap (λ (k : Kept). logs_after k c.args.place (user_of k.world (c.args.place + 1) - 1) (record { event = event.Take c.args.client c.args.job; prefix = c.entries.result }) None beside.Nothing) here) c.took.ensures

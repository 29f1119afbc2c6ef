use Rattle.std.proofs.Common.{ap, subst, sym, ◌∙◌}
use Rattle.run_meaning.specs.Jobs.{entry_after, job_of, newest, outcome_of}
use Rattle.run_meaning.proofs.RunningLemmas.{job-of-entry}
use Rattle.core_steps.specs.Comings.{JobMayCome, with_job_now}
use Rattle.core_steps.specs.Kepts.{IsKept, Kept, ran}
use Rattle.core_steps.proofs.ComingLemmas.{is-coming, job-read, kept-job, passes}
use Rattle.core_steps.proofs.running.Running.do_job.Goals as goal

pub returns-clause-kept : goal.returns-clause-kept
returns-clause-kept g c =
    let view = sym c.self.view_is in
    let job = c.args.job in
    let place = c.args.place in
    let kept = subst (λ (k : Kept). IsKept k) view c.requires.kept in
    let may = subst (λ (k : Kept). JobMayCome k job c.args.outcome place) view c.requires.may in
    let number = sym c.requires.may.number in
    let newest_is = c.newest-newest.ensures ∙ ap (λ (k : Kept). newest k.state.logs.jobs) view in
    let read = job-read _ c.self.inside.jobs.items place job c.index.result.now number may.within c.index.ensures in
    let noted = c.in_ok-entry.ensures c.self.inside.logs.jobs newest_is (passes _ job _ kept newest_is) ∙ ap (λ files. entry_after c.self.inside.logs.jobs job files) read in
    let coming = is-coming _ job place c.args.outcome may in
    let own = ap job_of noted ∙ job-of-entry c.self.inside.logs.jobs job _ in
    let board = c.note.ensures _ c.self.inside.logs.jobs c.in_ok-entry.entry kept.board coming.fresh own (ap outcome_of noted ∙ coming.outcome) in
    rw c.in_ok-note_job.ensures.ok (kept-job _ job place c.args.outcome c.in_ok-entry.entry c.note.new.self kept may noted board)

pub returns-clause-ok : goal.returns-clause-ok
returns-clause-ok g c =
    let view = sym c.self.view_is in
    let job = c.args.job in
    let place = c.args.place in
    let kept = subst (λ (k : Kept). IsKept k) view c.requires.kept in
    let may = subst (λ (k : Kept). JobMayCome k job c.args.outcome place) view c.requires.may in
    let number = sym c.requires.may.number in
    let newest_is = c.newest-newest.ensures ∙ ap (λ (k : Kept). newest k.state.logs.jobs) view in
    let read = job-read _ c.self.inside.jobs.items place job c.index.result.now number may.within c.index.ensures in
    let noted = c.in_ok-entry.ensures c.self.inside.logs.jobs newest_is (passes _ job _ kept newest_is) ∙ ap (λ files. entry_after c.self.inside.logs.jobs job files) read in
    rw c.in_ok-note_job.ensures.ok (rw noted (ap (λ (k : Kept). with_job_now (ran k) job c.args.outcome) c.self.view_is))

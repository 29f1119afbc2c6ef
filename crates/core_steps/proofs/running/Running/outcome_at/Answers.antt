use Rattle.std.proofs.Common.{◌≡◌, ◌<◌, ap, length, subst, sym, ◌∙◌}
use Rattle.run_meaning.specs.Jobs.{entry_after, newest, outcome_of}
use Rattle.run_meaning.specs.Worlds.{job_at}
use Rattle.core_steps.specs.Kepts.{IsKept, Kept}
use Rattle.core_steps.proofs.ComingLemmas.{job-read, passes}
use Rattle.core_steps.proofs.running.Running.outcome_at.Goals as goal

pub returns : goal.returns
returns g c =
    let view = sym c.self.view_is in
    let job = c.args.job in
    let kept = subst (λ (k : Kept). IsKept k) view c.requires.kept in
    let within = subst (λ (k : Kept). c.args.place < length k.world.jobs) view c.requires.within in
    let newest_is = c.newest.ensures ∙ ap (λ (k : Kept). newest k.state.logs.jobs) view in
    let read = job-read _ c.self.inside.jobs.items c.args.place job c.index.result.now c.requires.number within c.index.ensures in
    let outcome = c.outcome_after.ensures c.self.inside.logs.jobs newest_is (passes _ job _ kept newest_is) ∙ ap (λ files. outcome_of (entry_after c.self.inside.logs.jobs job files)) read in
    subst (λ (k : Kept). c.outcome_after.result ≡ outcome_of (entry_after k.state.logs.jobs job (job_at k.world job))) c.self.view_is outcome

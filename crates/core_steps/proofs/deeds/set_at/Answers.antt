use Rattle.std.proofs.Common.{sym, ap, subst, ◌∙◌, IsOk}
use Rattle.std.proofs.lemmas.Bool.{true≢false}
use Rattle.std.specs.Arc.{arc_value}
use Rattle.run_meaning.specs.Worlds.{lists_in}
use Rattle.core_steps.specs.JobFiles.{lists_read}
use Rattle.core_steps.proofs.SetLemmas.{job-found}
use Rattle.core_steps.proofs.deeds.set_at.Goals as goal

pub unreachable-requires : goal.unreachable-requires
unreachable-requires g c =
    let found = job-found (λ set. g.D.DataSet.lists (arc_value set)) c.args.jobs.now c.args.job c.index-jobs-job.result c.requires c.index-jobs-job.is in
    true≢false (sym (subst IsOk (found ∙ ap (lists_read (λ set. g.D.DataSet.lists (arc_value set))) c.in-Err.is) c.requires))

pub returns : goal.returns
returns g c =
    let found = job-found (λ set. g.D.DataSet.lists (arc_value set)) c.args.jobs.now c.args.job c.index-jobs-job.result c.requires c.index-jobs-job.is in
    sym (ap lists_in (found ∙ ap (lists_read (λ set. g.D.DataSet.lists (arc_value set))) c.in-Ok.is))

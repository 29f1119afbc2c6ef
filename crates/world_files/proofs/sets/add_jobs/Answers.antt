use Rattle.std.proofs.Common.{◌≡◌, ◌+◌, ◌-◌, ◌++◌, ◌∷◌, ◌∙◌, [], suc, ap, map, length, subst, arith}
use Rattle.std.specs.List.{range_with_len}
use Rattle.core_steps.specs.JobFiles.{lists_read}
use Rattle.world_files.specs.DataSets.{files_of, job_of, set_of}
use Rattle.world_files.proofs.EngineLists.{lists_seen}
use Rattle.world_files.proofs.JobSteps.{job-next}
use Rattle.world_files.proofs.SetFiles.{files_of-others, few-files_of, few-others_of}
use Rattle.world_files.proofs.sets.add_jobs.Goals as goal

pub job_in-requires : goal.job_in-requires
job_in-requires c =
    record { few = omega (arith, ap length c.in_ok-split.ensures.own, few-files_of (c.loop-place.place + 1) c.loop-place.left.items, c.loop-place.invariant.few, c.requires.few) }

pub loop-place-preserved : goal.loop-place-preserved
loop-place-preserved c =
    let place = c.loop-place.place in
    let files = c.args.files.items in
    let n = c.args.count - (place + 1) in
    let count : c.args.count - place ≡ suc n = omega (arith, c.loop-place-test.true) in
    let whole = map (lists_read lists_seen) c.args.jobs.now.items ++ map (job_of files) (range_with_len 2 (c.args.count - 1)) in
    let own = c.in_ok-split.ensures.own ∙ c.loop-place.invariant.files (place + 1) (omega arith) in
    let job = c.in_ok-job_in.ensures ∙ ap set_of own in
    let joined = subst (λ m. map (lists_read lists_seen) c.loop-place.jobs.items ++ map (job_of files) (range_with_len (place + 1) m) ≡ whole) count c.loop-place.invariant.jobs in
    record {
      jobs = let pushed = c.in_ok-push.ensures.items in rw pushed (job-next (lists_read lists_seen) (job_of files) c.loop-place.jobs.items c.in_ok-job_in.field-0 (place + 1) n whole job joined);
      files = λ number more. ap (files_of number) c.in_ok-split.ensures.others ∙ (files_of-others number (place + 1) c.loop-place.left.items (λ same. omega (arith, same, more)) ∙ c.loop-place.invariant.files number (omega (arith, more)));
      few = omega (arith, ap length c.in_ok-split.ensures.others, few-others_of (place + 1) c.loop-place.left.items, c.loop-place.invariant.few);
    }

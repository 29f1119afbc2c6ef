use Rattle.std.proofs.Common.{◌≡◌, ◌∙◌, ◌++◌, ◌∷◌, ◌-◌, [], Ok, length, ap, sym, map, arith}
use Rattle.std.specs.Arc.{arc_value}
use Rattle.std.specs.List.{range_with_len}
use Rattle.mz_base.specs.Answers.{◌>>=◌}
use Rattle.core_steps.specs.JobFiles.{lists_read}
use Rattle.world_files.specs.DataSets.{job_of, set_in}
use Rattle.world_files.proofs.EngineLists.{engine_lists, lists_seen}
use Rattle.world_files.proofs.JobSteps.{others-jobs}
use Rattle.world_files.proofs.SetFiles.{few-files_of, few-others_of}
use Rattle.world_files.proofs.sets.jobs_of.Goals as goal

pub set_in-requires : goal.set_in-requires
set_in-requires c =
    record { few = omega (arith, ap length c.in_ok-split.ensures.own, few-files_of 1 c.args.files.items, c.requires.few) }

pub add_jobs-requires-clause-few : goal.add_jobs-requires-clause-few
add_jobs-requires-clause-few c =
    omega (arith, ap length c.in_ok-split.ensures.others, few-others_of 1 c.args.files.items, c.requires.few)

pub returns-clause-told : goal.returns-clause-told
returns-clause-told c =
    let files = c.args.files.items in
    let next = range_with_len 2 (c.args.count - 1) in
    let first = ap set_in (sym c.in_ok-split.ensures.own) ∙ c.in_ok-first.ensures.told in
    let shared : arc_value c.in_ok-new.field-0 ≡ c.in_ok-first.first = c.in_ok-new.ensures.ok in
    let begun = c.in_ok-push.ensures.items ∙ ap (λ items. items ++ Ok c.in_ok-new.field-0 ∷ []) c.new-jobs.ensures.items in
    let one = ap (map (lists_read lists_seen)) begun ∙ ap (λ engine. Ok (engine_lists engine) ∷ []) shared in
    let further = ap (λ own. map (job_of own) next) c.in_ok-split.ensures.others ∙ others-jobs files 2 (c.args.count - 1) (omega arith) in
    let seen = c.in_ok-add_jobs.ensures ∙ (ap (λ front. front ++ map (job_of c.in_ok-split.split.others.items) next) one ∙ ap (λ jobs. Ok (engine_lists c.in_ok-first.first) ∷ jobs) further) in
    ap (λ given. given >>= (λ lists. Ok (Ok lists ∷ map (job_of files) next))) first ∙ ap Ok (sym seen)

use Rattle.std.proofs.Common.{◌∙◌, ap, length, map, arith}
use Rattle.core_steps.specs.JobFiles.{lists_read}
use Rattle.run_meaning.specs.Worlds.{World}
use Rattle.world_files.proofs.EngineLists.{lists_seen}
use Rattle.world_files.proofs.JobSteps.{as-many-jobs, first-reads}
use Rattle.world_files.proofs.Worlds.{read-is-world}
use Rattle.world_files.specs.Users.{plans_from}
use Rattle.world_files.proofs.world.built.Goals as goal

pub returns-clause-world : goal.returns-clause-world
returns-clause-world c =
    let told = c.in_ok-jobs.ensures.told in
    let users = c.in_ok-users.ensures ∙ (ap (λ reloads. plans_from reloads 1 c.as_slice-3.result.now) c.as_slice-2.ensures ∙ ap (λ names. plans_from c.args.read.reloads 1 names) c.as_slice-3.ensures) in
    let jobs = map (lists_read lists_seen) c.in_ok-jobs.jobs.items in
    let many = as-many-jobs c.into_vec.result.items (length c.as_slice.result.now) jobs told in
    let world : World = record { jobs = jobs; users = c.in_ok-users.users.items; clients = c.into_vec-2.result.items; certificates = c.args.read.manifest.certificates } in
    read-is-world c.args.read world c.requires (first-reads c.into_vec.result.items (length c.as_slice.result.now) jobs told) (omega (arith, many, ap length c.as_slice.ensures)) users c.into_vec-2.ensures

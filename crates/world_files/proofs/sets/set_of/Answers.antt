use Rattle.std.proofs.Common.{length, ap, arith}
use Rattle.mz_base.specs.declared.fault.Role.TheVariants.{Dictionary}
use Rattle.engine.proofs.FileCounts.{files_of_at_most}
use Rattle.world_files.proofs.sets.set_of.Goals as goal

pub build-requires : goal.build-requires
build-requires c =
    omega (arith, files_of_at_most Dictionary c.from_vec.result, ap length c.from_vec.ensures, c.requires)

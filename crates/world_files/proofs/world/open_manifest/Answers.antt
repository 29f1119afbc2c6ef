use Rattle.std.proofs.Common.{length, ap, arith}
use Rattle.world_files.proofs.LineCounts.{few-lines_of}
use Rattle.world_files.proofs.world.open_manifest.Goals as goal

pub returns-clause-few : goal.returns-clause-few
returns-clause-few g c =
    omega (arith, few-lines_of c.as_slice.result.now, ap length c.as_slice.ensures.value, c.in_ok-bytes.ensures.inside, c.in_ok-manifest.ensures.files)

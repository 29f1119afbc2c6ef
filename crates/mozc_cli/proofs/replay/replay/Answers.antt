use Rattle.std.proofs.Common.{length, ap, arith}
use Rattle.schedule.specs.declared.reader.Reading.{Reading}
use Rattle.world_files.proofs.LineCounts.{few-lines_of}
use Rattle.mozc_cli.proofs.replay.replay.Goals as goal

pub finish-requires : goal.finish-requires
finish-requires g c =
    let bytes = c.as_slice.result.now in
    record { few = omega (arith, ap (λ (reading : Reading). reading.lines) c.in_ok-reading.ensures, few-lines_of bytes, ap length c.as_slice.ensures.value, c.args.bytes.ok.0, c.args.bytes.ok.1, c.args.bytes.small) }

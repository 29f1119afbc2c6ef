use Rattle.std.proofs.Common.{arith}
use Rattle.mz_base.specs.Lines.{lines_of}
use Rattle.world_files.proofs.scripts.commands_in.Goals as goal

pub returns-in-Ok-clause-few : goal.returns-in-Ok-clause-few
returns-in-Ok-clause-few c =
    let are = c.scripts_go_line_by_line.ensures.ok (lines_of c.args.bytes.now) c.in-Ok.commands.items c.in-Ok.ensures in
    omega (arith, are.few)

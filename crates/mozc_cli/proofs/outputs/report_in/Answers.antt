use Rattle.world_files.proofs.ReadLaws.{Reads-after}
use Rattle.mozc_cli.proofs.outputs.report_in.Goals as goal

pub returns-clause-reads : goal.returns-clause-reads
returns-clause-reads g c = Reads-after _ _ _ _ _ _ c.in_ok-world.ensures.reads c.run.ensures.reads_nothing

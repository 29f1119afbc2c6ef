use Rattle.world_files.proofs.NamedLogs.{named-logs}
use Rattle.world_files.proofs.laws.played_logs_are_named.Goals as goal

pub returns : goal.returns
returns _ = named-logs

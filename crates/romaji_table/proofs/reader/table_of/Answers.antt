use Rattle.romaji_table.proofs.LatestRules.{latest-AreRules}
use Rattle.romaji_table.proofs.reader.table_of.Goals as goal

pub from_rows-requires : goal.from_rows-requires
from_rows-requires c = rw c.in_ok-kept.ensures (latest-AreRules c.args.rows.items c.requires)

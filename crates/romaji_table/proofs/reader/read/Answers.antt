use Rattle.std.proofs.Common.{[]}
use Rattle.std.proofs.lemmas.List.Elements.{All-nil, recursion_from_All}
use Rattle.mz_base.specs.Kana.{IsRule}
use Rattle.mz_base.specs.Lines.{lines_of}
use Rattle.mz_base.proofs.RowFacts.{rows_after-All}
use Rattle.romaji_table.proofs.LatestRules.{row-IsRule}
use Rattle.romaji_table.specs.Rows.{romaji_row}
use Rattle.romaji_table.proofs.reader.read.Goals as goal

pub table_of-requires : goal.table_of-requires
table_of-requires c =
    recursion_from_All IsRule c.in_ok-rows.rows.items (rows_after-All IsRule romaji_row row-IsRule [] 1 (lines_of c.args.bytes.now) c.in_ok-rows.rows.items (All-nil IsRule) (rw c.new.ensures.items at c.in_ok-rows.ensures))

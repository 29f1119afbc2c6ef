-- What a reader of dictionary rows has noted.
use Rattle.std.specs.Prelude.{◌≤◌, List}
use Rattle.mz_base.specs.declared.data.TheConstants.{MOST_IDS}
use Rattle.mz_base.specs.declared.data.WordRow.{WordRow}
use Rattle.dict_rows.specs.Tally.{IsTally}
use Rattle.dict_rows.specs.declared.reader.WordReader.{WordReader}

-- it has a tally of these rows
pub record Knows (reader : WordReader) (rows : List WordRow) : Type 0 where
  pub few_ids : reader.ids ≤ MOST_IDS
  pub tallied : IsTally reader.tally rows

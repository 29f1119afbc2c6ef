-- What an engine means.
use Rattle.mz_base.specs.Data.{DataLists}
use Rattle.engine.specs.Tables.{data_in}
use Rattle.engine.specs.declared.data.Engine.{Engine}

-- the data set that an engine is
abbrev pub lists_of : Engine → DataLists
lists_of engine = data_in engine.tables

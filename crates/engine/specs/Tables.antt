-- What the code holds while it builds a data set.
use Rattle.std.specs.Borrow.{Bor}
use Rattle.std.specs.Prelude.{List, map}
use Rattle.mz_base.specs.Data.{DataLists}
use Rattle.engine.specs.declared.files.SetFile.{SetFile}
use Rattle.engine.specs.declared.tables.Tables.{Tables}

-- the data set of the tables that its files give
abbrev pub data_in : Tables → DataLists
data_in tables =
    record { ids = tables.matrix.size; costs = tables.matrix.costs; features = tables.ids; unknown = tables.unknown; joins = tables.joins; pos = tables.pos; rules = tables.rules; words = tables.words.items; symbols = tables.symbols; kanji = tables.kanji }

-- what the references of a list point to
abbrev pub pointed : List (Bor SetFile) → List SetFile
pointed files = map (λ file. file.now) files

-- The lists of an engine, also where it is shared.
use Rattle.std.proofs.Common.{Global}
use Rattle.std.specs.Arc.{arc_value}
use Rattle.std.specs.declared.sync.Arc.{Arc}
use Rattle.engine.specs.contracts.data.EngineDataSet.TheImpl.{ghosts}
use Rattle.engine.specs.declared.data.Engine.{Engine}
use Rattle.mz_base.specs.Data.{DataLists}
use Rattle.mz_base.specs.declared.data.DataSet.Ghosts.{lists}

abbrev pub engine_lists : Engine → DataLists
engine_lists engine = denote.Param.read (lists {X-1 = Engine}) ghosts engine

abbrev pub lists_seen : Arc Engine Global → DataLists
lists_seen set = engine_lists (arc_value set)

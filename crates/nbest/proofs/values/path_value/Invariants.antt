use Rattle.std.proofs.Common.{◌≡◌, ◌++◌, drop}
use Rattle.conversion_meaning.specs.Candidates.{path_value}
use Rattle.nbest.proofs.values.path_value.Given as goal

abbrev pub invariant-loop-ordinal : goal.invariant-loop-ordinal
invariant-loop-ordinal g l =
    l.text.items ++ path_value (g.D.DataSet.lists l.set) (g.U.UserWords.rows l.user) l.lattice.key l.lattice.entries (drop l.ordinal-index l.path) ≡ path_value (g.D.DataSet.lists l.set) (g.U.UserWords.rows l.user) l.lattice.key l.lattice.entries l.path

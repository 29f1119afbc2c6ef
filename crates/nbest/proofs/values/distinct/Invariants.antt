use Rattle.std.proofs.Common.{◌≡◌, ◌-◌}
use Rattle.conversion_meaning.specs.declared.candidates.TheConstants.{MOST_PATHS}
use Rattle.nbest.specs.Searches.{IsSearch, still_to_come}
use Rattle.nbest.proofs.ValueLemmas.{IsGathered}
use Rattle.nbest.proofs.values.distinct.Given as goal

abbrev pub invariant-loop-place : goal.invariant-loop-place
invariant-loop-place g l = record {
  search : IsSearch (g.D.DataSet.lists l.set) l.lattice l.search;
  span : l.search.span ≡ l.span;
  made : IsGathered (g.D.DataSet.lists l.set) (g.U.UserWords.rows l.user) l.lattice l.span l.values.items (MOST_PATHS - l._place) (still_to_come (g.D.DataSet.lists l.set) l.lattice.entries l.search);
}

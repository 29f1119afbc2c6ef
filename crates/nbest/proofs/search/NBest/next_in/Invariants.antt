use Rattle.std.proofs.Common.{◌≡◌}
use Rattle.nbest.specs.Searches.{IsSearch, still_to_come}
use Rattle.nbest.specs.Weights.{weight}
use Rattle.nbest.proofs.search.NBest.next_in.Given as goal

abbrev pub invariant-loop-self : goal.invariant-loop-self
invariant-loop-self g l = record {
  search : IsSearch (g.D.DataSet.lists l.set) l.lattice l.self;
  same : still_to_come (g.D.DataSet.lists l.set) l.lattice.entries l.self ≡ still_to_come (g.D.DataSet.lists l.set) l.lattice.entries l.initial.self;
  span : l.self.span ≡ l.initial.self.span;
}

abbrev pub decreases-loop-self : goal.decreases-loop-self
decreases-loop-self g l = weight l.lattice l.self.span l.self.queue

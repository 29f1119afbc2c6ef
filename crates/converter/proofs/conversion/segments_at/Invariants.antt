use Rattle.std.proofs.Common.{◌≡◌, ◌++◌, drop, map}
use Rattle.conversion_meaning.specs.Answers.{segment_of}
use Rattle.conversion_meaning.specs.declared.rules.TheConstants.{RULE_ORDER}
use Rattle.converter.proofs.conversion.segments_at.Given as goal

-- the segments made so far, and then those of the parts that are left, are all segments
abbrev pub invariant-loop-begin : goal.invariant-loop-begin
invariant-loop-begin g l =
    l.segments.items ++ map (segment_of (g.D.DataSet.lists l.set) (g.U.UserWords.rows l.user) l.history RULE_ORDER l.lattice.key l.lattice.entries l.path) (drop l.begin-index l.parts) ≡ map (segment_of (g.D.DataSet.lists l.set) (g.U.UserWords.rows l.user) l.history RULE_ORDER l.lattice.key l.lattice.entries l.path) l.parts

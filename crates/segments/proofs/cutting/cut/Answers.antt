use Rattle.std.proofs.Common.{rules, length}
use Rattle.conversion_meaning.specs.Segments.{cut}
use Rattle.segments.proofs.CutLemmas.{All-ordinals}
use Rattle.segments.proofs.cutting.cut.Goals as goal

pub segment_ends-requires-clause-there : goal.segment_ends-requires-clause-there
segment_ends-requires-clause-there g c =
    All-ordinals c.args.lattice.now.entries 0 (length c.args.lattice.now.key) c.args.path.now c.requires.joined

pub returns : goal.returns
unfolding cut
returns g c = search rules

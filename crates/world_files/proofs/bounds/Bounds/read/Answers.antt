use Rattle.std.proofs.Common.{sym, ◌∙◌}
use Rattle.world_files.proofs.BoundLemmas.{bounds_in_within}
use Rattle.world_files.proofs.bounds.Bounds.read.Goals as goal

pub returns-then-are_bounds-clause-within : goal.returns-then-are_bounds-clause-within
returns-then-are_bounds-clause-within c =
    bounds_in_within c.args.key_length c.args.text.now (sym c.are_bounds.ensures ∙ c.if-are_bounds.true)

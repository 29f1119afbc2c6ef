use Rattle.std.proofs.Common.{◌≡◌, ◌++◌, option_map}
use Rattle.world_files.specs.BoundTexts.{items_left, rising}
use Rattle.world_files.proofs.BoundLemmas.{length_left}
use Rattle.world_files.proofs.bounds.numbers_in.Given as goal

-- the bounds so far, and then those that the items that are left spell, are those of all items
abbrev pub invariant-loop-left : goal.invariant-loop-left
invariant-loop-left l =
    option_map (λ rest. l.bounds.items ++ rest) (rising l.last l.before (items_left l.left)) ≡ rising l.last 0 (items_left l.text)

abbrev pub decreases-loop-left : goal.decreases-loop-left
decreases-loop-left l = length_left l.left

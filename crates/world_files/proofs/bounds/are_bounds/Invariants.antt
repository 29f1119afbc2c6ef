use Rattle.std.proofs.Common.{◌≡◌, is_some}
use Rattle.cert_text.specs.Fields.{bounds_in}
use Rattle.world_files.specs.BoundTexts.{items_left, rising}
use Rattle.world_files.proofs.BoundLemmas.{length_left}
use Rattle.world_files.proofs.bounds.are_bounds.Given as goal

-- the items that are left spell bounds exactly where the text does
abbrev pub invariant-loop-left : goal.invariant-loop-left
invariant-loop-left l =
    (l.last ≡ l.key_length) × (is_some (rising l.key_length l.before (items_left l.left)) ≡ is_some (bounds_in l.key_length l.text))

abbrev pub decreases-loop-left : goal.decreases-loop-left
decreases-loop-left l = length_left l.left

use Rattle.std.proofs.Common.{◌≡◌, ℕ, ◌+◌, ◌<◌, ◌≤◌, [], drop, length}
use Rattle.world_files.specs.DataSets.{files_of, sets_after}
use Rattle.world_files.proofs.sets.all_sets.Given as goal

-- The sets so far, and then those of the names that are left, are those of all names; and what is left of the files has all
-- files of the sets that are left.
abbrev pub invariant-loop-index : goal.invariant-loop-index
invariant-loop-index l =
    (sets_after l.fn.files.items l.sets.items (l.index + 1) (drop l.index l.names) ≡ sets_after l.fn.files.items [] 1 l.names) × ((number : ℕ) → l.index < number → files_of number l.left.items ≡ files_of number l.fn.files.items) × (length l.left.items ≤ length l.fn.files.items)

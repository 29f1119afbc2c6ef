use Rattle.std.proofs.Common.{◌≡◌, ◌≤◌, [], Some, drop, length}
use Rattle.world_files.specs.Reading.{Files, files_after}
use Rattle.world_files.proofs.reading.read_files.Given as goal

-- The files so far, and then those of the lines that are left, are those of all lines; the store's files and its count of
-- faults stay.
abbrev pub invariant-loop-line : goal.invariant-loop-line
invariant-loop-line g l =
    ((told : Files) → g.S.Store.files l.initial.store ≡ Some told → files_after told l.files.items l.unread (drop l.line-index l.lines) ≡ files_after told [] l.fn.left l.lines) × (g.S.Store.files l.store ≡ g.S.Store.files l.initial.store) × (g.S.Store.faults l.store ≡ g.S.Store.faults l.initial.store) × (length l.files.items ≤ l.line-index)

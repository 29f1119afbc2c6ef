use Rattle.std.proofs.Common.{◌≡◌, ◌++◌, [], Some, drop, map}
use Rattle.scenario.specs.declared.manifest.DictLine.{DictLine}
use Rattle.world_files.specs.Reading.{Files}
use Rattle.world_files.specs.Dictionaries.{reloads_after}
use Rattle.world_files.specs.Reloads.{Reload}
use Rattle.world_files.proofs.dictionaries.read_reloads.Given as goal

-- The reloads so far, and then those of the lines that are left, are those of all lines, each of its line's user; the store's
-- files and its count of faults stay.
abbrev pub invariant-loop-line : goal.invariant-loop-line
invariant-loop-line g l =
    ((told : Files) → g.S.Store.files l.initial.store ≡ Some told → reloads_after told l.reloads.items l.unread (drop l.line-index l.lines) ≡ reloads_after told [] l.fn.left l.lines) × (g.S.Store.files l.store ≡ g.S.Store.files l.initial.store) × (g.S.Store.faults l.store ≡ g.S.Store.faults l.initial.store) × (map (λ (reload : Reload). reload.user) l.reloads.items ++ map (λ (line : DictLine). line.user) (drop l.line-index l.lines) ≡ map (λ (line : DictLine). line.user) l.lines)

use Rattle.std.proofs.Common.{◌≡◌, ◌++◌, [], Some, drop, map}
use Rattle.scenario.specs.declared.manifest.ClientLine.{ClientLine}
use Rattle.world_files.specs.Reading.{Files}
use Rattle.world_files.specs.Scripts.{scripts_after}
use Rattle.world_files.specs.declared.scripts.ScriptFile.{ScriptFile}
use Rattle.world_files.proofs.scripts.read_scripts.Given as goal

-- The scripts so far, and then those of the lines that are left, are those of all lines, each of its line's user; the store's
-- files and its count of faults stay.
abbrev pub invariant-loop-line : goal.invariant-loop-line
invariant-loop-line g l =
    ((told : Files) → g.S.Store.files l.initial.store ≡ Some told → scripts_after told l.scripts.items l.unread (drop l.line-index l.lines) ≡ scripts_after told [] l.fn.left l.lines) × (g.S.Store.files l.store ≡ g.S.Store.files l.initial.store) × (g.S.Store.faults l.store ≡ g.S.Store.faults l.initial.store) × (map (λ (script : ScriptFile). script.user) l.scripts.items ++ map (λ (line : ClientLine). line.user) (drop l.line-index l.lines) ≡ map (λ (line : ClientLine). line.user) l.lines)

use Rattle.std.proofs.Common.{◌≡◌, ◌+◌, ◌≤◌, drop, length}
use Rattle.mz_base.specs.Lines.{pointed}
use Rattle.scenario.specs.Manifests.{nothing_told, manifest_after}
use Rattle.scenario.proofs.manifest.read_lines.Given as goal

-- What the lines told so far, and then what the lines that are left tell, is what all lines tell; and no more files were told
-- than lines.
abbrev pub invariant-loop-index : goal.invariant-loop-index
invariant-loop-index l =
    (manifest_after l.draft (l.index + 1) (pointed (drop l.index l.fn.lines)) ≡ manifest_after nothing_told 1 (pointed l.fn.lines)) × (length l.draft.files ≤ l.index)

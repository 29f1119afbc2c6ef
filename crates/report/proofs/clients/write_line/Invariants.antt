use Rattle.std.proofs.Common.{◌≡◌, ◌++◌, drop}
use Rattle.std.specs.List.{flat_map}
use Rattle.std.specs.String.{string_bytes}
use Rattle.report.specs.Texts.{tabbed}
use Rattle.report.proofs.clients.write_line.Given as goal

-- what is written, and then the fields that are left, is the line with all its fields
abbrev pub invariant-loop-text : goal.invariant-loop-text
invariant-loop-text l =
    string_bytes l.out ++ flat_map tabbed (drop l.text-index l.text-items) ≡ string_bytes l.initial.out ++ flat_map tabbed l.text-items

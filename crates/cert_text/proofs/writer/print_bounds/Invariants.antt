use Rattle.std.proofs.Common.{◌≡◌, ◌++◌, drop, map}
use Rattle.std.specs.Fmt.{decimal}
use Rattle.std.specs.List.{flat_map}
use Rattle.std.specs.String.{string_bytes}
use Rattle.cert_text.specs.Texts.{tabbed}
use Rattle.cert_text.proofs.writer.print_bounds.Given as goal

-- what is written, and then the fields that are left, is the line with all its fields
abbrev pub invariant-loop-bound : goal.invariant-loop-bound
invariant-loop-bound l =
    string_bytes l.out ++ flat_map tabbed (map decimal (drop l.bound-index l.bounds)) ≡ string_bytes l.initial.out ++ flat_map tabbed (map decimal l.bounds)

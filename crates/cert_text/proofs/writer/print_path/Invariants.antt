use Rattle.std.proofs.Common.{◌≡◌, ◌++◌, drop, map}
use Rattle.std.specs.Fmt.{decimal}
use Rattle.std.specs.List.{flat_map}
use Rattle.std.specs.String.{string_bytes}
use Rattle.cert_text.specs.Texts.{tabbed}
use Rattle.cert_text.proofs.writer.print_path.Given as goal

-- what is written, and then the fields that are left, is the line with all its fields
abbrev pub invariant-loop-ordinal : goal.invariant-loop-ordinal
invariant-loop-ordinal l =
    string_bytes l.out ++ flat_map tabbed (map decimal (drop l.ordinal-index l.path)) ≡ string_bytes l.initial.out ++ flat_map tabbed (map decimal l.path)

use Rattle.std.proofs.Common.{◌≡◌, ◌++◌, drop, map}
use Rattle.std.specs.Fmt.{signed_decimal}
use Rattle.std.specs.List.{flat_map}
use Rattle.std.specs.String.{string_bytes}
use Rattle.cert_text.specs.Texts.{tabbed}
use Rattle.cert_text.proofs.writer.print_potentials.Given as goal

-- what is written, and then the fields that are left, is the line with all its fields
abbrev pub invariant-loop-potential : goal.invariant-loop-potential
invariant-loop-potential l =
    string_bytes l.out ++ flat_map tabbed (map signed_decimal (drop l.potential-index l.potentials)) ≡ string_bytes l.initial.out ++ flat_map tabbed (map signed_decimal l.potentials)

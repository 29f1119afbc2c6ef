use Rattle.std.proofs.Common.{◌≡◌, ◌++◌, drop}
use Rattle.std.specs.List.{flat_map}
use Rattle.std.specs.String.{string_bytes}
use Rattle.report.specs.Texts.{certificate_entry_text}
use Rattle.report.proofs.certificates.print_entries.Given as goal

-- what is written, and then the certificates that are left, are all certificates
abbrev pub invariant-loop-entry : goal.invariant-loop-entry
invariant-loop-entry l =
    string_bytes l.out ++ flat_map (certificate_entry_text l.logs) (drop l.entry-index l.entries) ≡ string_bytes l.initial.out ++ flat_map (certificate_entry_text l.logs) l.entries

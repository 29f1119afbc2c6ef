use Rattle.std.proofs.Common.{◌≡◌, ◌++◌, drop}
use Rattle.std.specs.List.{flat_map}
use Rattle.std.specs.String.{string_bytes}
use Rattle.report.specs.Texts.{entry_text}
use Rattle.report.proofs.journals.print_journal.Given as goal

-- what is written, and then the entries that are left, is the journal with all its entries
abbrev pub invariant-loop-entry : goal.invariant-loop-entry
invariant-loop-entry l =
    string_bytes l.out ++ flat_map (entry_text l.logs l.user) (drop l.entry-index l.entry-items) ≡ string_bytes l.initial.out ++ flat_map (entry_text l.logs l.user) l.entry-items

use Rattle.std.proofs.Common.{◌≡◌, ◌++◌, drop}
use Rattle.std.specs.List.{flat_map}
use Rattle.std.specs.String.{string_bytes}
use Rattle.report.specs.Texts.{journal_text}
use Rattle.report.proofs.journals.print_journals.Given as goal

-- what is written, and then the journals that are left, are all journals
abbrev pub invariant-loop-user : goal.invariant-loop-user
invariant-loop-user l =
    string_bytes l.out ++ flat_map (journal_text l.logs) (drop l.user-index l.user-items) ≡ string_bytes l.initial.out ++ flat_map (journal_text l.logs) l.user-items

use Rattle.std.proofs.Common.{◌≡◌, ◌+◌, ◌++◌, drop}
use Rattle.std.specs.String.{string_bytes}
use Rattle.report.specs.Texts.{lines_text}
use Rattle.report.proofs.clients.print_client.Given as goal

-- what is written, and then the lines that are left, is the client with all its lines
abbrev pub invariant-loop-index : goal.invariant-loop-index
invariant-loop-index l =
    string_bytes l.out ++ lines_text (l.index + 1) (drop l.index l.line-items) ≡ string_bytes l.initial.out ++ lines_text 1 l.line-items

use Rattle.std.proofs.Common.{◌≡◌, ◌++◌, drop}
use Rattle.std.specs.List.{flat_map}
use Rattle.std.specs.String.{string_bytes}
use Rattle.report.specs.Texts.{client_text}
use Rattle.report.proofs.clients.print_clients.Given as goal

-- what is written, and then the clients that are left, are all clients
abbrev pub invariant-loop-client : goal.invariant-loop-client
invariant-loop-client l =
    string_bytes l.out ++ flat_map (client_text l.logs) (drop l.client-index l.client-items) ≡ string_bytes l.initial.out ++ flat_map (client_text l.logs) l.client-items

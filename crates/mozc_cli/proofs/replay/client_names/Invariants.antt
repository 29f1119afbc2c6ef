use Rattle.std.proofs.Common.{◌≡◌, ◌++◌, drop, map}
use Rattle.run_meaning.specs.Worlds.{ClientPlan}
use Rattle.mozc_cli.proofs.replay.client_names.Given as goal

-- the names so far, and then those of the clients that are left, are those of all
abbrev pub invariant-loop-client : goal.invariant-loop-client
invariant-loop-client l =
    l.names.items ++ map (λ (client : ClientPlan). client.name) (drop l.client-index l.clients) ≡ map (λ (client : ClientPlan). client.name) l.clients

use Rattle.std.proofs.Common.{◌≡◌, ◌++◌, [], drop, map}
use Rattle.std.specs.List.{All}
use Rattle.run_meaning.specs.Worlds.{ClientPlan, IsCounted}
use Rattle.world_files.specs.Scripts.{clients_after}
use Rattle.world_files.specs.declared.scripts.ScriptFile.{ScriptFile}
use Rattle.world_files.proofs.scripts.clients_in.Given as goal

-- The clients so far, and then those of the scripts that are left, are those of all scripts, each of its script's user and
-- with commands that can be counted.
abbrev pub invariant-loop-script : goal.invariant-loop-script
invariant-loop-script l =
    (clients_after l.clients.items (drop l.script-index l.scripts) ≡ clients_after [] l.scripts) × (map (λ (client : ClientPlan). client.user) l.clients.items ++ map (λ (script : ScriptFile). script.user) (drop l.script-index l.scripts) ≡ map (λ (script : ScriptFile). script.user) l.scripts) × All (λ (client : ClientPlan). IsCounted client.commands) l.clients.items

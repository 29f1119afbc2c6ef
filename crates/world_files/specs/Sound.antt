-- What is known of all that was read, whatever a store tells of its files.
use Rattle.std.specs.Prelude.{◌≡◌, ◌<◌, ◌≤◌, ◌^◌, ℕ, All, List, length, map}
use Rattle.run_meaning.specs.Worlds.{ClientPlan, IsCounted}
use Rattle.scenario.specs.Sound.{IsOneOf, IsSound}
use Rattle.scenario.specs.declared.manifest.ClientLine.{ClientLine}
use Rattle.scenario.specs.declared.manifest.DictLine.{DictLine}
use Rattle.world_files.specs.Reloads.{Reload}
use Rattle.world_files.specs.declared.scripts.ScriptFile.{ScriptFile}
use Rattle.world_files.specs.declared.world.Sources.{Sources}

-- scripts of just these clients, with their users
abbrev pub AreScriptsOf : List ClientLine → List ScriptFile → Type 0
AreScriptsOf lines scripts =
    map (λ (script : ScriptFile). script.user) scripts ≡ map (λ (line : ClientLine). line.user) lines

-- and the clients of these scripts, whose commands can be counted
pub record AreClientsOf (scripts : List ScriptFile) (clients : List ClientPlan) : Type 0 where
  pub users : map (λ (client : ClientPlan). client.user) clients ≡ map (λ (script : ScriptFile). script.user) scripts
  pub commands : All (λ (client : ClientPlan). IsCounted client.commands) clients

-- a reload of each of these lines, of its user
abbrev pub AreReloadsOf : List DictLine → List Reload → Type 0
AreReloadsOf lines reloads =
    map (λ (reload : Reload). reload.user) reloads ≡ map (λ (line : DictLine). line.user) lines

-- The manifest is sound, its clients are those that were read, and so are its reloads; there are few data files.
pub record AreSound (read : Sources) : Type 0 where
  pub manifest : IsSound read.manifest
  pub users : map (λ (client : ClientPlan). client.user) read.clients ≡ map (λ (line : ClientLine). line.user) read.manifest.clients
  pub commands : All (λ (client : ClientPlan). IsCounted client.commands) read.clients
  pub reloads : AreReloadsOf read.manifest.dicts read.reloads
  pub files : length read.files < 2 ^ 32

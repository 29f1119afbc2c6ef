use Rattle.std.proofs.Common.{◌∙◌, ap, length, map, arith}
use Rattle.scenario.specs.declared.manifest.ClientLine.{ClientLine}
use Rattle.scenario.specs.declared.manifest.DictLine.{DictLine}
use Rattle.world_files.specs.declared.scripts.ScriptFile.{ScriptFile}
use Rattle.world_files.proofs.world.read_sources.Goals as goal

pub returns-clause-sound : goal.returns-clause-sound
returns-clause-sound g c = record {
  manifest = c.in_ok-start.ensures.sound;
  users = c.in_ok-clients.ensures.of.users ∙ (ap (map (λ (script : ScriptFile). script.user)) c.as_slice-2.ensures ∙ (c.in_ok-scripts.ensures.of ∙ ap (map (λ (line : ClientLine). line.user)) c.as_slice.ensures));
  commands = c.in_ok-clients.ensures.of.commands;
  reloads = c.in_ok-dicts.ensures.of ∙ ap (map (λ (line : DictLine). line.user)) c.as_slice-4.ensures;
  files = omega (arith, c.in_ok-found.ensures.count, ap length c.as_slice-3.ensures, c.in_ok-start.ensures.few);
}

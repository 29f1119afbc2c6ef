use Rattle.std.proofs.Common.{[]}
use Rattle.scenario.specs.Scripts.{script_of}
use Rattle.scenario.proofs.ScriptLaws.{script-told}
use Rattle.scenario.proofs.script_laws.scripts_need_no_memory.Goals as goal

pub returns : goal.returns
unfolding script_of
returns c lines is = script-told [] 1 lines is

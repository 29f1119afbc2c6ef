use Rattle.std.proofs.Common.{[], arith}
use Rattle.scenario.specs.Scripts.{script_of}
use Rattle.scenario.proofs.ScriptLaws.{commands-read, first-fault}
use Rattle.scenario.proofs.script_laws.scripts_go_line_by_line.Goals as goal

pub returns : goal.returns
unfolding script_of
returns c = record {
  ok = λ lines commands is. commands-read [] 1 lines commands (omega arith) is;
  err = λ lines refused is. first-fault [] 1 lines refused is;
}

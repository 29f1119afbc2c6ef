use Rattle.std.proofs.Common.{◌≡◌, ◌++◌, drop}
use Rattle.std.specs.List.{flat_map}
use Rattle.scenario.specs.Scripts.{typed}
use Rattle.scenario.proofs.commands.press_all.Given as goal

-- the commands so far, and then those of the characters that are left, are those of all characters
abbrev pub invariant-loop-c : goal.invariant-loop-c
invariant-loop-c l =
    l.commands.items ++ flat_map typed (drop l.c-index l.text) ≡ l.initial.commands.items ++ flat_map typed l.text

use Rattle.std.proofs.Common.{◌≡◌, map, take}
use Rattle.run_meaning.specs.Worlds.{note_of}
use Rattle.core_steps.specs.Plans.{reload_of}
use Rattle.core_steps.proofs.beginning.notes.Given as goal

-- the notes of the reloads so far
abbrev pub invariant-loop-dict : goal.invariant-loop-dict
invariant-loop-dict l = l.notes.items ≡ map note_of (map reload_of (take l.dict-index l.dicts))

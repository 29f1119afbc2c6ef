-- The commands of a client, one at a time.
use Rattle.std.specs.Prelude.{ℕ, List, [], ◌∷◌}
use Rattle.keys.specs.declared.command.Command.{Command}
use Rattle.run_meaning.specs.Orders.{obeyed}
use Rattle.run_meaning.specs.States.{State}
use Rattle.run_meaning.specs.Worlds.{World}

-- the first of these commands, if there is one
abbrev pub obeyed_first : World → ℕ → State → List Command → State
obeyed_first world client state [] = state
obeyed_first world client state (c ∷ rest) = obeyed world client state c

-- What a client holds: its plan, and how far it is.
use Rattle.std.specs.Prelude.{◌&&◌, ℕ, Bool, false, not, List, [], ◌∷◌, Option, Some, None, drop, is_none, nat_le, nat_lt, option_map}
use Rattle.std.specs.Option.{option_map_or}
use Rattle.keys.specs.declared.command.Command.{Command}
use Rattle.session_meaning.specs.Stages.{Session}
use Rattle.session_meaning.specs.Steps.{Stepped, step}
use Rattle.run_meaning.specs.Deeds.{awaited_by, is_empty, lacks_learn, lacks_take}
use Rattle.run_meaning.specs.States.{Progress}
use Rattle.run_meaning.specs.Worlds.{ClientPlan}

pub record Held : Type 0 where
  pub plan : ClientPlan
  pub progress : Progress

-- the next command, if there is one
abbrev pub next_in : List Command → Option Command
next_in [] = None
next_in (c ∷ rest) = Some c

-- a step may come
abbrev pub may_step : Progress → Bool
may_step p =
    not (is_empty p.rest) && (is_none (awaited_by p.rest) && (not (lacks_learn p) && not (lacks_take p)))

-- what the next command makes of the session, and its line
abbrev pub stepped_by : Progress → Option Stepped
stepped_by p = option_map (λ c. step p.session c p.taken) (next_in p.rest)

-- the next command is over, and this is the session
abbrev pub over_with : Progress → Session → Progress
over_with p session = record p { session = session; rest = drop 1 p.rest; learned = false; taken = None }

-- the data of a job, which stands published, may be taken
abbrev pub may_take : Progress → ℕ → Bool
may_take p job = lacks_take p && (not (lacks_learn p) && nat_le p.seen job)

-- a wait may end with a job, which stands published
abbrev pub may_await : Progress → ℕ → Bool
may_await p job = option_map_or (λ wanted. nat_le wanted job && nat_le p.seen job) (awaited_by p.rest) false

-- a wait may find none, where this is the newest
abbrev pub may_find_none : Progress → ℕ → Bool
may_find_none p newest = option_map_or (λ wanted. nat_lt newest wanted) (awaited_by p.rest) false

-- the end may come
abbrev pub may_end : Progress → Bool
may_end p = is_empty p.rest && not p.ended

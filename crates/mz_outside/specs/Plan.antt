-- A plan of faults: which calls are to fail, by their numbers from 1.
use Rattle.std.specs.Prelude.{ℕ, ◌+◌, ◌-◌, ◌^◌, min, max, List, Bool, ◌==◌, if◌then◌else◌}
use Rattle.std.specs.List.{list_any}

-- one more, or the same at the type's end
abbrev pub one_more : ℕ → ℕ
one_more count = max count (min (count + 1) (2 ^ 64 - 1))

pub record FaultPlan : Type 0 where
  pub failing : List ℕ
  pub calls : ℕ
  pub faults : ℕ

-- the next call is one that is to fail
abbrev pub next_fails : FaultPlan → Bool
next_fails plan = list_any (λ call. call == one_more plan.calls) plan.failing

-- a call is counted
abbrev pub with_call : FaultPlan → FaultPlan
with_call plan = record plan { calls = one_more plan.calls }

-- a fault is counted
abbrev pub with_fault : FaultPlan → FaultPlan
with_fault plan = record plan { faults = one_more plan.faults }

-- a call is counted, and its fault where one is planned
abbrev pub after_call : FaultPlan → FaultPlan
after_call plan = if next_fails plan then with_fault (with_call plan) else with_call plan

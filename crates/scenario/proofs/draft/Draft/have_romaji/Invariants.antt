use Rattle.std.proofs.Common.{◌≡◌, ◌-◌}
use Rattle.std.specs.List.{list_all, range_with_len}
use Rattle.mz_base.specs.declared.fault.Role.TheVariants.{Romaji}
use Rattle.scenario.specs.Entries.{has_file}
use Rattle.scenario.specs.Manifests.{have_romaji}
use Rattle.scenario.proofs.draft.Draft.have_romaji.Given as goal

-- each set that is left has its file where each set has
abbrev pub invariant-loop-set : goal.invariant-loop-set
invariant-loop-set l =
    list_all (λ set. has_file l.self.files set Romaji) (range_with_len l.set (l.set-end - l.set)) ≡ have_romaji l.self

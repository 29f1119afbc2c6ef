use Rattle.std.proofs.Common.{◌∙◌, rules}
use Rattle.mz_base.specs.declared.fault.Role.TheVariants.{Romaji}
use Rattle.scenario.specs.Entries.{has_file}
use Rattle.scenario.proofs.SetSteps.{list_all-more}
use Rattle.scenario.proofs.draft.Draft.have_romaji.Goals as goal

pub loop-set-preserved : goal.loop-set-preserved
loop-set-preserved c =
    list_all-more (λ set. has_file c.args.self.now.files set Romaji) c.loop-set.set _ c.loop-set-test.true (search rules) ∙ c.loop-set.invariant

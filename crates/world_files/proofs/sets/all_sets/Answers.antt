use Rattle.std.proofs.Common.{◌+◌, length, drop, sym, ap, ◌∙◌, arith}
use Rattle.world_files.specs.DataSets.{files_of, set_in, sets_after}
use Rattle.world_files.proofs.ListingSteps.{sets_after-set}
use Rattle.world_files.proofs.SetFiles.{files_of-others, few-files_of, few-others_of}
use Rattle.world_files.proofs.sets.all_sets.Goals as goal

pub set_in-requires : goal.set_in-requires
set_in-requires c =
    omega (arith, ap length c.in_ok-split.ensures.own, few-files_of (c.loop-index.index + 1) c.loop-index.left.items, c.loop-index.invariant.2, c.requires.few)

pub loop-index-preserved : goal.loop-index-preserved
loop-index-preserved c =
    let i = c.loop-index.index in
    let files = c.args.files.items in
    let own = c.in_ok-split.ensures.own ∙ c.loop-index.invariant.1 (i + 1) (omega arith) in
    let built = ap set_in (sym own) ∙ c.in_ok-set.ensures.told in
    let name = c.index-names-index.result in
    let listed = sets_after-set files c.args.names.now i name c.loop-index.sets.items _ c.loop-index-test.true built in
    let pushed = rw c.in_ok-named.ensures at c.in_ok-push.ensures.items in (
      ap (λ sets. sets_after files sets (i + 1 + 1) (drop (i + 1) c.args.names.now)) (rw c.index-names-index.is at pushed) ∙ (sym listed ∙ c.loop-index.invariant.0),
      λ number more. ap (files_of number) c.in_ok-split.ensures.others ∙ (files_of-others number (i + 1) c.loop-index.left.items (λ same. omega (arith, same, more)) ∙ c.loop-index.invariant.1 number (omega (arith, more))),
      omega (arith, ap length c.in_ok-split.ensures.others, few-others_of (i + 1) c.loop-index.left.items, c.loop-index.invariant.2),
    )

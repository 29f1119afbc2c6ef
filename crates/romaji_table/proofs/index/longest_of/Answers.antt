use Rattle.std.proofs.Common.{◌≢◌, ◌-◌, take, get_or, arith, ap, sym, ◌∙◌, Some}
use Rattle.std.specs.List.{All}
use Rattle.mz_base.specs.declared.romaji.Rule.{Rule}
use Rattle.romaji_table.proofs.LongestRule.{FitsWithin, FitsWithin-shorter, longest-found, longest-none, fits-length}
use Rattle.romaji_table.proofs.index.longest_of.Goals as goal

pub returns-in-Some : goal.returns-in-Some
returns-in-Some c =
    let n = c.min-limit.result - c.loop-shorter.shorter in
    let ((k, below, reads), is) = c.in-Some.ensures in
    let input = ap (λ (rule : Rule). rule.input) reads ∙ is ∙ c.split_at.ensures.front in
    let found = longest-found c.args.rules.now c.args.text.now n k c.in-Some.rule.now c.requires.sound.distinct c.loop-shorter.invariant (omega arith) below input in
    sym (found ∙ ap Some reads)

pub loop-shorter-preserved : goal.loop-shorter-preserved
loop-shorter-preserved c =
    let n = c.min-limit.result - c.loop-shorter.shorter in
    let none : All (λ (rule : Rule). rule.input ≢ take n c.args.text.now) c.args.rules.now = rw c.split_at.ensures.front at c.in_default.ensures in
    let less = FitsWithin-shorter c.args.rules.now c.args.text.now n (omega arith) c.loop-shorter.invariant none in
    λ k d inside is. let short = less k d inside is in omega (arith, short)

pub loop-shorter-init : goal.loop-shorter-init
loop-shorter-init c =
    λ k d inside is. let short = c.requires.within k d inside in let front = fits-length c.args.text.now (get_or c.args.rules.now k d) is in omega (arith, short, front)

pub returns : goal.returns
returns c =
    let none : FitsWithin c.args.rules.now c.args.text.now 0 = λ k d inside is. let short = c.loop-shorter.invariant k d inside is in omega (arith, short) in
    sym (longest-none c.args.rules.now c.args.text.now c.requires.sound.each none)

use Rattle.std.proofs.Common.{◌≡◌, ap, ◌∙◌, arith, length, ◌<◌}
use Rattle.std.proofs.lemmas.Grind.{common_steps}
use Rattle.mz_base.specs.Kana.{Shown}
use Rattle.composer.proofs.KanaSteps.{finish-step, finish-made}
use Rattle.composer.proofs.shown.finish.Goals as goal

pub loop-shown-preserved : goal.loop-shown-preserved
loop-shown-preserved g c =
    let some : 0 < length c.loop-shown.shown.pending = grind (arith, common_steps) in
    finish-step _ c.loop-shown.shown c.turn.new.self _ c.in_ok-turn.ensures.sound some c.in_ok-turn.ensures.turned c.loop-shown.invariant

pub returns : goal.returns
returns g c =
    let empty : length c.loop-shown.shown.pending ≡ 0 = grind (arith, common_steps) in
    let made : c.loop-shown.shown.output ≡ _ = finish-made _ c.loop-shown.shown _ empty c.loop-shown.invariant in
    ap (λ (shown : Shown). shown.output) c.shown.view_is ∙ made

use Rattle.std.proofs.Common.{◌≡◌, true, false}
use Rattle.mz_base.specs.Kana.{waits}
use Rattle.composer.proofs.KanaSteps.{kana-step, kana-made}
use Rattle.composer.proofs.shown.kana.Goals as goal

pub loop-shown-preserved : goal.loop-shown-preserved
loop-shown-preserved g c =
    let going : waits (g.R.Romaji.rules c.args.table.now) c.loop-shown.shown.pending ≡ false = cc in
    kana-step _ c.loop-shown.shown c.turn.new.self _ c.in_ok-turn.ensures.sound going c.in_ok-turn.ensures.turned c.loop-shown.invariant

pub returns : goal.returns
returns g c =
    let waiting : waits (g.R.Romaji.rules c.args.table.now) c.loop-shown.shown.pending ≡ true = cc in
    kana-made _ c.loop-shown.shown _ waiting c.loop-shown.invariant

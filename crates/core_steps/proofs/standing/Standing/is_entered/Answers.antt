use Rattle.core_steps.proofs.StandingLemmas.{told, told_none, told_zero}
use Rattle.core_steps.proofs.standing.Standing.is_entered.Goals as goal

pub returns-in_default : goal.returns-in_default
returns-in_default c = λ journal caught. told_zero journal c.args.self.now caught c.args.reload c.in_default.ensures

pub returns-in-Some-get : goal.returns-in-Some-get
returns-in-Some-get c =
    λ journal caught. told journal c.args.self.now caught c.as_slice.result.now c.args.reload c.in-Some.place c.in-Some-get.entered.now c.as_slice.ensures.value c.in-Some.ensures.0 c.in-Some.ensures.1 c.in-Some-get.ensures.lookup.0 c.in-Some-get.ensures.lookup.1

pub returns-in-None : goal.returns-in-None
returns-in-None c =
    λ journal caught. told_none journal c.args.self.now caught c.as_slice.result.now c.args.reload c.in-Some.place c.as_slice.ensures.value c.in-Some.ensures.0 c.in-Some.ensures.1 c.in-None.ensures.lookup.0

use Rattle.mz_base.specs.Numbers.{signed_of}
use Rattle.mz_base.proofs.numbers.signed.Goals as goal

pub returns-in-Some : goal.returns-in-Some
unfolding signed_of
returns-in-Some c =
    rw (c.negated.ensures, c.unsigned.ensures.value, c.in-Some.ensures.0, c.in-Some.ensures.1)

pub returns-in-None : goal.returns-in-None
unfolding signed_of
returns-in-None c =
    rw (c.positive.ensures, c.unsigned-in-None.ensures.value, c.in-None.ensures)

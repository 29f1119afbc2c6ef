use Rattle.std.proofs.Common.{inl, inr}
use Rattle.conversion_meaning.proofs.Ordered.{one_is_before, not_before_back}
use Rattle.conversion_meaning.proofs.order.one_is_before.Goals as goal

pub returns : goal.returns
returns c = λ d es span p q differ.
    elim (one_is_before d es span p q differ) [ inl a ↦ inl (a, not_before_back d es span p q a) | inr b ↦ inr (b, not_before_back d es span q p b) ]

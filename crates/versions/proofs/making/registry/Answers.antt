use Rattle.std.proofs.Common.{sym, ap, ◌∙◌}
use Rattle.versions.proofs.Histories.{Begins-same}
use Rattle.versions.proofs.making.registry.Goals as goal

-- both copies and the operation are of the start
pub install-copies-requires : goal.install-copies-requires
install-copies-requires g c = Begins-same _ _ (ap (λ s. s.known) c.in_ok-copies.ensures.0 ∙ (c.in_ok-another.ensures ∙ sym c.in_ok-operation.ensures))

use Rattle.std.proofs.Common.{refl, sym, ◌∙◌, ap, subst}
use mathlib.Core.List.{IsPrefix}
use Rattle.versions.proofs.Longer.{longer_by_place}
use Rattle.versions.proofs.known.Known.is_longer_than.Goals as goal

pub returns : goal.returns
returns g c =
    let both = c.learn.new.self.log in
    let this : IsPrefix c.self.inside.seen.log both = subst (λ l. IsPrefix l both) (ap (λ s. s.log) c.again-both.ensures) c.learn.ensures.2 in
    rw (← c.self.view_is, ← c.other.view_is) (longer_by_place _ _ both c.self.inside.place c.other.inside.place c.self.invariant c.other.invariant (ap (λ p. p.registry) c.other.view_is ∙ (c.requires ∙ sym (ap (λ p. p.registry) c.self.view_is))) this c.learn.ensures.3 _ refl)

-- A fact that has one proof at most.
use Rattle.std.specs.Prelude.{◌≢◌, List, [], ◌∷◌}
use Rattle.std.specs.Coded.{×_prop, →_prop, Unit-prop}
use Rattle.std.specs.List.{AllByRecursion-prop}
use Rattle.mz_base.specs.Kana.{AreDistinct}
use Rattle.mz_base.specs.declared.romaji.Rule.{Rule}

pub AreDistinct-prop : (rules : List Rule) → IsProp (AreDistinct rules)
AreDistinct-prop [] = Unit-prop
AreDistinct-prop (rule ∷ rules) =
    ×_prop (AllByRecursion-prop (λ other. other.input ≢ rule.input) (λ other. →_prop (λ x y. absurd x)) rules) (AreDistinct-prop rules)

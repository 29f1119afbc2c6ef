use Rattle.std.proofs.Common.{◌≡◌, [], ◌∷◌, Some, None, refl, lit<, arith}
use Rattle.std.specs.Prelude.{pos}
use Rattle.std.proofs.lemmas.Int.{ints}
use Rattle.mz_base.specs.Data.{connection}
use Rattle.conversion_meaning.specs.Examples.{claim_with, kyouha_potentials, raised_potentials}
use Rattle.conversion_meaning.specs.Potentials.{ordinals_in}
use Rattle.conversion_meaning.proofs.Tests.{IsEdgeFault-by_tests, IsTotalFault-by_tests}
use Rattle.conversion_meaning.proofs.examples.kyouha_faults.Goals as goal

pub returns : goal.returns
unfolding connection ordinals_in
returns _ =
    record {
      low_total = IsTotalFault-by_tests (claim_with (1 ∷ 5 ∷ []) kyouha_potentials (pos 749)) (pos 749) (pos 750) refl (λ same. (let h : pos 749 ≡ pos 750 = same in omega (arith, ints, h))) refl;
      high_total = IsEdgeFault-by_tests (claim_with (1 ∷ 5 ∷ []) kyouha_potentials (pos 751)) (Some 5) None (lit< tt) tt refl;
      high_potential = IsEdgeFault-by_tests (claim_with (1 ∷ 5 ∷ []) raised_potentials (pos 750)) (Some 1) (Some 5) (lit< tt) (lit< tt) refl;
      few_potentials = record { wanted_is = refl; found_is = refl; differ = λ same. omega (arith, same) };
      dearer_path = IsTotalFault-by_tests (claim_with (1 ∷ 6 ∷ []) kyouha_potentials (pos 750)) (pos 750) (pos 1500) refl (λ same. (let h : pos 750 ≡ pos 1500 = same in omega (arith, ints, h))) refl;
      short_path = record { count = refl; breaks = record { within = lit< tt; here = 3; joined = (lit< tt, refl, refl); stops = record { next = λ inside. absurd (omega arith); over = λ same here_is. omega (arith, here_is) } } };
    }

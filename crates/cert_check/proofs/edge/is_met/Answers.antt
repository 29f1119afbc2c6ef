use Rattle.std.proofs.Common.{arith, rules, ◌↔◌, IsTrue, ◌≡◌, sym, ℤ, ◌+ℤ◌, ◌≤ℤ◌, to_z, of_z}
use mir.Syntax.{w32, w64, w128}
use mir.Val.{SFits}
use lib.Signed.{le_z}
use Rattle.std.proofs.lemmas.Int.{ints}
use Rattle.cert_check.proofs.edge.is_met.Goals as goal

-- 128 bits hold all that is summed
test : (p s k c : ℤ) → SFits w64 p → SFits w64 s → SFits w32 k → SFits w32 c → IsTrue (le_z (to_z w128 (of_z w128 (to_z w64 (of_z w64 p)))) (to_z w128 (of_z w128 (to_z w128 (of_z w128 (to_z w128 (of_z w128 (to_z w64 (of_z w64 s))) +ℤ to_z w128 (of_z w128 (to_z w32 (of_z w32 k))))) +ℤ to_z w128 (of_z w128 (to_z w32 (of_z w32 c))))))) ↔ (p ≤ℤ ((s +ℤ k) +ℤ c))
test p s k c p_fits s_fits k_fits c_fits =
    let p_is : to_z w128 (of_z w128 (to_z w64 (of_z w64 p))) ≡ p = omega (arith, ints) in
    let s_is : to_z w128 (of_z w128 (to_z w64 (of_z w64 s))) ≡ s = omega (arith, ints) in
    let k_is : to_z w128 (of_z w128 (to_z w32 (of_z w32 k))) ≡ k = omega (arith, ints) in
    let c_is : to_z w128 (of_z w128 (to_z w32 (of_z w32 c))) ≡ c = omega (arith, ints) in
    let sk_is : to_z w128 (of_z w128 (s +ℤ k)) ≡ s +ℤ k = omega (arith, ints) in
    let all_is : to_z w128 (of_z w128 ((s +ℤ k) +ℤ c)) ≡ (s +ℤ k) +ℤ c = omega (arith, ints) in
    simp (p_is, s_is, k_is, c_is, sk_is, all_is) (λ h. grind (arith, ints), λ h. grind (arith, ints))

pub returns : goal.returns
returns g c =
    let p : SFits w64 c.args.target.now.potential = search rules in
    let s : SFits w64 c.args.source.now.potential = search rules in
    let k : SFits w32 c.conn-connection.result = search rules in
    let t : SFits w32 c.args.target.now.cost = search rules in
    rw (sym c.conn-connection.ensures) (test c.args.target.now.potential c.args.source.now.potential c.conn-connection.result c.args.target.now.cost p s k t)

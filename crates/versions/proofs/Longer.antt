-- Of two prefixes of one history the places decide which is longer.
use Rattle.std.proofs.Common.{◌≡◌, ℕ, ◌<◌, ◌≤◌, Bool, true, false, nat_lt, List, length, MatchBool, sym, arith}
use Rattle.std.proofs.lemmas.Bool.Decides.{nat_tests}
use mathlib.Core.List.{IsPrefix}
use Rattle.versions.specs.declared.history.Version.{Version}
use Rattle.versions.specs.Histories.{Prefix, IsPlace, Begins}
use Rattle.versions.proofs.Prefixes.{prefix_shorter}

pub longer_by_place : {T E : Type 0} (p q : Prefix T E) (both : List (Version T E)) (m n : ℕ) → IsPlace m p.log → IsPlace n q.log → q.registry ≡ p.registry → IsPrefix p.log both → IsPrefix q.log both
    → (b : Bool) → nat_lt n m ≡ b → MatchBool b ((length q.log < length p.log) × Begins q p) ((length p.log ≤ length q.log) × Begins p q)
longer_by_place p q both m n at_p at_q one p_both q_both true is =
    let less : n < m = grind (arith, nat_tests) in
    (omega arith, (one, prefix_shorter q.log p.log both q_both p_both (omega arith)))
longer_by_place p q both m n at_p at_q one p_both q_both false is =
    let less : m ≤ n = grind (arith, nat_tests) in
    (omega arith, (sym one, prefix_shorter p.log q.log both p_both q_both (omega arith)))

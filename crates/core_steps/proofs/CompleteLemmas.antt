-- Whether all reloads of all users came.
use Rattle.std.proofs.Common.{◌≡◌, refl, sym, ap, ◌∙◌, ℕ, suc, ◌+◌, ◌<◌, Bool, List, [], ◌∷◌, arith, length, map, slice_index_or}
use Rattle.std.specs.Prelude.{◌&&◌}
use Rattle.std.specs.List.{list_all, range_with_len}
use Rattle.std.proofs.lemmas.List.{get_or-map}
use Rattle.run_meaning.specs.Numbers.{at_number, numbers}
use Rattle.run_meaning.specs.Plays.{are_entered}
use Rattle.run_meaning.specs.States.{journal_of, no_user_log}
use Rattle.run_meaning.specs.Users.{is_entered}
use Rattle.run_meaning.specs.Worlds.{Reload, UserPlan, no_user, reloads_of}
use Rattle.core_steps.specs.Kepts.{IsKept, Kept}
use Rattle.core_steps.specs.Standings.{has_all}
use Rattle.core_steps.specs.declared.standing.Standing.{Standing}
use Rattle.core_steps.proofs.KeptLemmas.{users-there}
use Rattle.core_steps.proofs.SetLemmas.{journal-there}
use Rattle.core_steps.proofs.StandingLemmas.{all_entered}

-- what holds at each place holds at each number
places-numbers : {A : Type 0} (p : A → Bool) (q : ℕ → Bool) (xs : List A) (from : ℕ) → ((k : ℕ) (d : A) → k < length xs → p (slice_index_or xs k d) ≡ q (from + k)) → list_all p xs ≡ list_all q (range_with_len from (length xs))
places-numbers p q [] from each = refl
places-numbers p q (x ∷ xs) from each =
    let first : p x ≡ q from = each 0 x (let there : 0 < length (x ∷ xs) = omega arith in there) ∙ ap q (omega arith) in
    let rest = places-numbers p q xs (from + 1) (λ k d there. each (suc k) d (let more : suc k < length (x ∷ xs) = omega (arith, there) in more) ∙ ap q (omega arith)) in
    ap (λ b. b && list_all p xs) first ∙ ap (λ b. q from && b) rest

module _ (kept : Kept) (is : IsKept kept) where
  reloads-of : (k : ℕ) (user : Standing) → k < length kept.users → (slice_index_or kept.users k user).plan.reloads ≡ reloads_of kept.world (1 + k)
  reloads-of k user there =
      let number : suc k ≡ 1 + k = omega arith in
      let read : slice_index_or (map (λ (u : Standing). u.plan) kept.users) k no_user ≡ (slice_index_or kept.users k user).plan = get_or-map (λ (u : Standing). u.plan) kept.users k user no_user there in
      ap (λ (p : UserPlan). p.reloads) (sym read)
      ∙ (ap (λ plans. (at_number no_user plans (suc k)).reloads) (sym is.plans)
      ∙ ap (reloads_of kept.world) number)

  entered-at : (k : ℕ) (user : Standing) → k < length kept.users → has_all (slice_index_or kept.users k user) ≡ are_entered kept.world kept.state (1 + k)
  entered-at k user there =
      let caught = is.caught.each k no_user_log user there in
      let next : k + 1 ≡ 1 + k = omega arith in
      let journal = sym (journal-there kept.state (1 + k) k next) in
      all_entered (slice_index_or kept.state.logs.users k no_user_log).entries (slice_index_or kept.users k user) caught
      ∙ (ap (λ j. list_all (is_entered j) (numbers (length (slice_index_or kept.users k user).plan.reloads))) journal
      ∙ ap (λ (reloads : List Reload). list_all (is_entered (journal_of kept.state (1 + k))) (numbers (length reloads))) (reloads-of k user there))

  pub all-entered : list_all has_all kept.users ≡ list_all (are_entered kept.world kept.state) (numbers (length kept.world.users))
  all-entered =
      places-numbers has_all (are_entered kept.world kept.state) kept.users 1 entered-at
      ∙ ap (λ n. list_all (are_entered kept.world kept.state) (numbers n)) (sym (users-there kept is))

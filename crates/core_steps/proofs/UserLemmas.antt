-- A user at a place, and what becomes of it at a take.
use Rattle.std.proofs.Common.{◌≡◌, sym, ap, subst, ◌∙◌, inl, inr, ◌⊎◌, ℕ, suc, ◌+◌, ◌<◌, List, Result, Ok, Err, arith, length, map, slice_index_or, slice_set, get_or-set_same}
use Rattle.std.specs.Prelude.{IfOk}
use Rattle.std.proofs.Math.Seq.{map-set_same}
use Rattle.std.proofs.lemmas.Bool.{cases_eq}
use Rattle.std.proofs.lemmas.List.{get_or-map, get_or-set_other, get_or_default, length-set}
use Rattle.mz_base.specs.Data.{DataLists}
use Rattle.mz_base.specs.declared.logs.Logs.{Logs}
use Rattle.mz_base.specs.declared.logs.UserLog.{UserLog}
use Rattle.mz_base.specs.declared.status.BadSet.{BadSet}
use Rattle.run_meaning.specs.Numbers.{at_number}
use Rattle.run_meaning.specs.Worlds.{UserPlan, no_user, reloads_of}
use Rattle.core_steps.specs.Helds.{Held}
use Rattle.core_steps.specs.Kepts.{AreCaught, IsKept, Kept, kept_of, with_users}
use Rattle.core_steps.specs.Standings.{IsCaught}
use Rattle.core_steps.specs.declared.board.Board.{Board}
use Rattle.core_steps.specs.declared.standing.Standing.{Standing}

abbrev plan_of : Standing → UserPlan
plan_of user = user.plan

-- what holds of each that there is, and follows, holds
pub if-ok-then : {A E : Type 0} {P Q : A → Type 0} → (r : Result A E) → ((a : A) → P a → Q a) → IfOk r P → IfOk r Q
if-ok-then (Ok a) follows holds = follows a holds
if-ok-then (Err e) follows holds = tt

-- what is kept of a user is of its journal
pub caught-there : (logs : List UserLog) (users : List Standing) (place : ℕ) (log : UserLog) (user : Standing) → AreCaught logs users → log ≡ slice_index_or logs place log → user ≡ slice_index_or users place user → place < length users → IsCaught log.entries user
caught-there logs users place log user caught is_log is_user there =
    let here = caught.each place log user there in
    subst (λ (l : UserLog). IsCaught l.entries user) (sym is_log) (subst (λ u. IsCaught (slice_index_or logs place log).entries u) (sym is_user) here)

-- another one at a place
module _ (logs : List UserLog) (users : List Standing) (caught : AreCaught logs users) (place : ℕ) (log : UserLog) (after : Standing) (is_log : log ≡ slice_index_or logs place log) (is : IsCaught log.entries after) where
  moved-at : (k : ℕ) (other : UserLog) (user : Standing) → k < length users → (place ≡ k) ⊎ (place ≡ k → ⊥) → IsCaught (slice_index_or logs k other).entries (slice_index_or (slice_set users place after) k user)
  moved-at k other user there (inl same) =
      let within : place < length users = (omega (arith, there, same)) in
      let many = caught.count in
      let in_logs : place < length logs = omega (arith, within, many) in
      let own : slice_index_or (slice_set users place after) k user ≡ after = subst (λ n. slice_index_or (slice_set users place after) n user ≡ after) same (get_or-set_same users place after user within) in
      let its : log ≡ slice_index_or logs k other = subst (λ n. log ≡ slice_index_or logs n other) same (is_log ∙ get_or_default logs place log other in_logs) in
      subst (λ u. IsCaught (slice_index_or logs k other).entries u) (sym own) (subst (λ (l : UserLog). IsCaught l.entries after) its is)
  moved-at k other user there (inr apart) =
      subst (λ u. IsCaught (slice_index_or logs k other).entries u) (sym (get_or-set_other users place k after user (λ same. apart (sym same)))) (caught.each k other user there)

  caught-moved : AreCaught logs (slice_set users place after)
  caught-moved =
      let same : length (slice_set users place after) ≡ length users = length-set users place after in
      record {
        count = same ∙ caught.count;
        each = λ k other user there. moved-at k other user (let few : k < length users = omega (arith, there, same) in few) (cases_eq place k);
      }

module _ (jobs : List (Result DataLists BadSet)) (board : Board) (users : List Standing) (clients : List Held) (logs : Logs) (kept : Kept) (is : kept_of jobs board users clients logs ≡ kept) (place : ℕ) (was after : Standing) (at : was ≡ slice_index_or users place was) (same : after.plan ≡ was.plan) where
  plans-stay : map plan_of (slice_set users place after) ≡ map plan_of users
  plans-stay = map-set_same plan_of users place after was (same ∙ ap plan_of at)

  -- only what is kept of the user changes
  pub user-moved : kept_of jobs board (slice_set users place after) clients logs ≡ with_users kept (slice_set users place after)
  user-moved =
      ap (λ plans. record (kept_of jobs board (slice_set users place after) clients logs) { world = record (kept_of jobs board users clients logs).world { users = plans } }) plans-stay
      ∙ ap (λ k. with_users k (slice_set users place after)) is

  -- and it is kept of what stands
  pub user-kept : IsKept kept → (log : UserLog) → log ≡ slice_index_or logs.users place log → IsCaught log.entries after → IsKept (kept_of jobs board (slice_set users place after) clients logs)
  user-kept kept_is log is_log is_caught =
      let before : IsKept (kept_of jobs board users clients logs) = subst IsKept (sym is) kept_is in
      let moved : IsKept (with_users (kept_of jobs board users clients logs) (slice_set users place after)) =
      record {
        world = before.world;
        plans = before.plans ∙ sym plans-stay;
        played = before.played;
        board = before.board;
        caught = caught-moved logs.users users before.caught place log after is_log is_caught;
      }
      in
      subst IsKept (sym (user-moved ∙ ap (λ k. with_users k (slice_set users place after)) (sym is))) moved

  -- the reloads of the user are those of its plan
  pub reloads-there : (number : ℕ) → place + 1 ≡ number → place < length users → was.plan.reloads ≡ reloads_of kept.world number
  reloads-there number next within =
      let here : number ≡ suc place = omega (arith, next) in
      let read : slice_index_or (map plan_of users) place no_user ≡ was.plan = get_or-map plan_of users place was no_user within ∙ ap plan_of (sym at) in
      ap (λ (p : UserPlan). p.reloads) (sym read)
      ∙ (ap (λ n. (at_number no_user (map plan_of users) n).reloads) (sym here)
      ∙ ap (λ (k : Kept). reloads_of k.world number) is)

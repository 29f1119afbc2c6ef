-- What holds of what is kept.
use Rattle.std.proofs.Common.{◌≡◌, ap, ◌∙◌, ℕ, suc, ◌+◌, ◌<◌, ◌≤◌, ◌^◌, Bool, true, false, List, [], Option, Some, None, arith, length, slice_index_or}
use Rattle.std.specs.Prelude.{IfSome, IsTrue, if◌then◌else◌}
use Rattle.std.proofs.Math.ListN.{length-map}
use Rattle.std.proofs.lemmas.List.Elements.{All-get_or}
use Rattle.mz_base.specs.declared.event.Event.{Event}
use Rattle.mz_base.specs.declared.logs.CertEntry.{CertEntry}
use Rattle.run_meaning.specs.Deeds.{Deed, certificate_of}
use Rattle.run_meaning.specs.Numbers.{is_number}
use Rattle.run_meaning.specs.Plays.{apply, certified, did}
use Rattle.run_meaning.specs.States.{State, client_at, no_client_log, no_progress, start}
use Rattle.run_meaning.specs.Worlds.{ClientPlan, World, client_plan, no_client, user_of}
use Rattle.run_meaning.proofs.ClientLemmas.{as-many-play}
use Rattle.run_meaning.proofs.EventKinds.{MayCome, by_kind, kept_by_play}
use Rattle.run_meaning.proofs.JournalLemmas.{users_are_there}
use Rattle.run_meaning.proofs.RunningLemmas.{clients-play, number-from, number-parts}
use Rattle.core_steps.specs.Certificates.{AreByClient}
use Rattle.core_steps.specs.Kepts.{IsKept, Kept}
use Rattle.core_steps.specs.declared.standing.Standing.{Standing}
use Rattle.core_steps.proofs.Certified.{by_client_with}
use Rattle.core_steps.proofs.CountLemmas.{counted-play, few}

module _ (kept : Kept) (is : IsKept kept) where
  pub clients-there : length kept.state.clients ≡ length kept.world.clients
  clients-there = clients-play kept.world kept.state.logs.events kept.state is.played

  pub users-there : length kept.world.users ≡ length kept.users
  users-there = ap length is.plans ∙ length-map kept.users (λ (user : Standing). user.plan)

  -- the user of a client at a place is one of those that are kept
  pub user-within : (place : ℕ) → place < length kept.state.clients → (0 < user_of kept.world (suc place)) × (user_of kept.world (suc place) ≤ length kept.users)
  user-within place within =
      let number : IsTrue (is_number kept.world.clients (suc place)) = number-from kept.world.clients (suc place) (omega arith) (let count = clients-there in omega (arith, within, count)) in
      let parts = number-parts kept.world.users (user_of kept.world (suc place)) (users_are_there kept.world (suc place) is.world number) in
      (parts.0, (let most = parts.1 in let count = users-there in omega (arith, most, count)))

  -- each client has its log
  pub log-within : (place : ℕ) → place < length kept.state.clients → place < length kept.state.logs.clients
  log-within place within =
      let many = as-many-play kept.world kept.state.logs.events kept.state is.played in
      omega (arith, within, many)

-- ---- Certificates stand by client

sorted-certified : (kept : Option (List CertEntry)) (made : Option CertEntry) → IfSome kept AreByClient → IfSome (certified kept made) AreByClient
sorted-certified kept None are = are
sorted-certified None (Some made) are = tt
sorted-certified (Some entries) (Some made) are = by_client_with made entries are

abbrev first-certificates : Bool → Option (List CertEntry)
first-certificates b = if b then Some [] else None

sorted-start : (b : Bool) → IfSome (first-certificates b) AreByClient
sorted-start true = tt
sorted-start false = tt

abbrev AreSorted : State → Type 0
AreSorted s = IfSome s.logs.certificates AreByClient

sorted-apply : (world : World) (s t : State) (e : Event) → apply world s e ≡ Some t → AreSorted s → AreSorted t
unfolding did
sorted-apply world =
    by_kind world (λ s e t. AreSorted s → AreSorted t) (λ s job o legal are. are) (λ s legal are. are) (λ s user reload legal are. are) by_did
  where
    by_did : (s : State) (c : ℕ) (e : Event) (deed : Deed) → MayCome world s c e deed → AreSorted s → AreSorted (did world s c deed e)
    by_did s c e deed may are = sorted-certified s.logs.certificates (certificate_of (client_at s c) deed) are

pub sorted : (kept : Kept) → IsKept kept → IfSome kept.state.logs.certificates AreByClient
sorted kept is =
    kept_by_play kept.world AreSorted (sorted-apply kept.world) (start kept.world) kept.state kept.state.logs.events is.played (sorted-start kept.world.certificates)

-- ---- Counts

module _ (kept : Kept) (is : IsKept kept) where
  -- the commands of each client are fewer than 2^32
  few-commands : (place : ℕ) → place < length kept.state.clients → length (client_plan kept.world (suc place)).commands < 2 ^ 32
  few-commands place within =
      All-get_or (λ (plan : ClientPlan). length plan.commands < 2 ^ 32) kept.world.clients place no_client (let count = clients-there kept is in omega (arith, within, count)) is.world.commands

  -- the learns of a client can be counted on
  pub learns-few : (place : ℕ) → place < length kept.state.clients → (slice_index_or kept.state.clients place no_progress).learns < 2 ^ 32 + 1
  unfolding client_at
  learns-few place within =
      let counted = counted-play kept.world kept.state.logs.events kept.state (suc place) is.played in
      let learns = counted.learns in
      let most = few (client_at kept.state (suc place)).progress.learned in
      let commands = few-commands place within in
      omega (arith, learns, most, commands)

  -- the next command has a number
  pub number-few : (place : ℕ) → place < length kept.state.clients → 0 < length (slice_index_or kept.state.clients place no_progress).rest → length (slice_index_or kept.state.logs.clients place no_client_log).lines + 1 < 2 ^ 32
  unfolding client_at
  number-few place within next =
      let counted = counted-play kept.world kept.state.logs.events kept.state (suc place) is.played in
      let lines = counted.lines in
      let commands = few-commands place within in
      omega (arith, lines, commands, next)

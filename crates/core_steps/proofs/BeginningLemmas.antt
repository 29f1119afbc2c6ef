-- What is kept before any event.
use Rattle.std.proofs.Common.{◌≡◌, refl, sym, ap, subst, ◌∙◌, ℕ, zero, suc, ◌<◌, Bool, true, false, List, [], ◌∷◌, Option, Some, None, arith, length, map, slice_index_or}
use Rattle.std.specs.Prelude.{if◌then◌else◌, is_some}
use Rattle.std.proofs.lemmas.List.{length-map}
use Rattle.mz_base.specs.declared.logs.CertEntry.{CertEntry}
use Rattle.mz_base.specs.declared.logs.Logs.{Logs}
use Rattle.mz_base.specs.declared.logs.UserLog.{UserLog}
use Rattle.run_meaning.specs.Plays.{play}
use Rattle.run_meaning.specs.States.{Progress, begun_with, first_logs, start, user_log}
use Rattle.run_meaning.specs.Worlds.{ClientPlan, IsWorld, UserPlan, World}
use Rattle.core_steps.specs.Boards.{IsBoard}
use Rattle.core_steps.specs.Cores.{Ran, beginning}
use Rattle.core_steps.specs.Kepts.{AreCaught, IsKept, Kept, ran}
use Rattle.core_steps.specs.Standings.{AreFirst, IsCaught}
use Rattle.core_steps.specs.declared.board.Board.{Board}
use Rattle.core_steps.specs.declared.standing.Standing.{Standing}

-- there are certificates where they are kept
abbrev certificates_if : Bool → Option (List CertEntry)
certificates_if b = if b then Some [] else None

there_if : (b : Bool) → is_some (certificates_if b) ≡ b
there_if true = refl
there_if false = refl

-- each journal is empty
no_entries : (plans : List UserPlan) (place : ℕ) (log : UserLog) → place < length plans → (slice_index_or (map user_log plans) place log).entries ≡ []
no_entries [] place log within = absurd (omega (arith, within))
no_entries (plan ∷ plans) zero log within = refl
no_entries (plan ∷ plans) (suc place) log within = no_entries plans place log (omega (arith, within))

-- users with empty journals are of the first logs
first_caught : (plans : List UserPlan) (users : List Standing) → AreFirst plans users → AreCaught (map user_log plans) users
first_caught plans users first =
    let count : length plans ≡ length users = ap length first.plans ∙ length-map users (λ (user : Standing). user.plan) in
    record {
      count = sym (length-map plans user_log ∙ count);
      each = λ place log user within. subst (λ journal. IsCaught journal (slice_index_or users place user)) (sym (no_entries plans place log (subst (λ n. place < n) (sym count) within))) (first.caught place user within);
    }

-- the parts of what is kept
abbrev pub kept_of : World → List ClientPlan → Logs → List Progress → Board → List Standing → Kept
kept_of world plans logs clients board users =
    record {
      world = record { jobs = world.jobs; users = map (λ (user : Standing). user.plan) users; clients = plans; certificates = is_some logs.certificates };
      state = record { logs = logs; clients = clients };
      board = board;
      users = users;
    }

module _ (world : World) (plans : List ClientPlan) (logs : Logs) (clients : List Progress) (board : Board) (users : List Standing) where
  abbrev made : List UserPlan → List ClientPlan → Logs → List Progress → Ran
  made us cs l ps =
      record { world = record { jobs = world.jobs; users = us; clients = cs; certificates = is_some l.certificates }; state = record { logs = l; clients = ps } }

  -- it is the beginning of the world
  begins : AreFirst world.users users → plans ≡ world.clients → logs ≡ first_logs world → clients ≡ map (λ (plan : ClientPlan). begun_with plan.commands) world.clients → ran (kept_of world plans logs clients board users) ≡ beginning world
  begins first same_plans same_logs same_clients =
      ap (λ us. made us plans logs clients) (sym first.plans)
      ∙ (ap (λ cs. made world.users cs logs clients) same_plans
      ∙ (ap (λ l. made world.users world.clients l clients) same_logs
      ∙ (ap (λ ps. made world.users world.clients (first_logs world) ps) same_clients
      ∙ ap (λ (b : Bool). record { world = record { jobs = world.jobs; users = world.users; clients = world.clients; certificates = b }; state = start world }) (there_if world.certificates))))

  -- and what is kept of it is in order
  first_kept : IsWorld world → (count : ℕ) → count ≡ length world.jobs → IsBoard count [] board → AreFirst world.users users → plans ≡ world.clients → logs ≡ first_logs world → clients ≡ map (λ (plan : ClientPlan). begun_with plan.commands) world.clients → (ran (kept_of world plans logs clients board users) ≡ beginning world) × IsKept (kept_of world plans logs clients board users)
  first_kept is_world count jobs empty first same_plans same_logs same_clients =
      let same = begins first same_plans same_logs same_clients in (
        same,
        record {
          world = subst (λ (r : Ran). IsWorld r.world) (sym same) is_world;
          plans = refl;
          played = subst (λ (r : Ran). play r.world r.state.logs.events ≡ Some r.state) (sym same) refl;
          board = subst (λ (l : Logs). IsBoard (length world.jobs) l.jobs board) (sym same_logs) (subst (λ n. IsBoard n [] board) jobs empty);
          caught = subst (λ (l : Logs). AreCaught l.users users) (sym same_logs) (first_caught world.users users first);
        },
      )

  -- the same, where the world is the view of what is there
  pub kept_from : (seen : World) → world ≡ seen → IsWorld seen → (count : ℕ) → count ≡ length world.jobs → IsBoard count [] board → AreFirst world.users users → plans ≡ world.clients → logs ≡ first_logs seen → clients ≡ map (λ (plan : ClientPlan). begun_with plan.commands) world.clients → (ran (kept_of world plans logs clients board users) ≡ beginning seen) × IsKept (kept_of world plans logs clients board users)
  kept_from seen same is_world count jobs empty first same_plans same_logs same_clients =
      subst (λ w. (ran (kept_of world plans logs clients board users) ≡ beginning w) × IsKept (kept_of world plans logs clients board users)) same (first_kept (subst IsWorld (sym same) is_world) count jobs empty first same_plans (same_logs ∙ ap first_logs (sym same)) same_clients)

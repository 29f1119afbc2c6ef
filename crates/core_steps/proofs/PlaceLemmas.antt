-- A client at a place, and what becomes of it.
use Rattle.std.proofs.Common.{◌≡◌, sym, ap, subst, ◌∙◌, ℕ, ◌<◌, List, Result, length, map, slice_index_or, slice_set}
use Rattle.std.proofs.lemmas.List.{get_or-map, map-set}
use Rattle.std.proofs.Math.Seq.{map-set_same}
use Rattle.std.proofs.Math.ListN.{length-map}
use Rattle.mz_base.specs.Data.{DataLists}
use Rattle.mz_base.specs.declared.logs.Logs.{Logs}
use Rattle.mz_base.specs.declared.status.BadSet.{BadSet}
use Rattle.run_meaning.specs.States.{Progress, no_progress}
use Rattle.run_meaning.specs.Worlds.{ClientPlan}
use Rattle.core_steps.specs.Helds.{Held}
use Rattle.core_steps.specs.Kepts.{Kept, kept_of, progress_at, with_progress}
use Rattle.core_steps.specs.declared.board.Board.{Board}
use Rattle.core_steps.specs.declared.standing.Standing.{Standing}

abbrev plan_of : Held → ClientPlan
plan_of client = client.plan

abbrev progress_in : Held → Progress
progress_in client = client.progress

module _ (clients : List Held) (place : ℕ) (was after : Held) (change : Progress → Progress) (within : place < length clients) (at : was ≡ slice_index_or clients place was) (made : after ≡ record { plan = was.plan; progress = change was.progress }) where
  -- plans stay
  plans-stay : map plan_of (slice_set clients place after) ≡ map plan_of clients
  plans-stay = map-set_same plan_of clients place after was (ap plan_of made ∙ ap plan_of at)

  -- how far it is, is read at the place
  read-there : slice_index_or (map progress_in clients) place no_progress ≡ was.progress
  read-there = get_or-map progress_in clients place was no_progress within ∙ ap progress_in (sym at)

  -- and changed there
  progress-moves : map progress_in (slice_set clients place after) ≡ slice_set (map progress_in clients) place (change (slice_index_or (map progress_in clients) place no_progress))
  progress-moves =
      map-set progress_in clients place after
      ∙ ap (slice_set (map progress_in clients) place) (ap progress_in made ∙ ap change (sym read-there))

  -- so the client at the place has moved
  pub moved : (jobs : List (Result DataLists BadSet)) (board : Board) (users : List Standing) (logs : Logs) (kept : Kept) → kept_of jobs board users clients logs ≡ kept → kept_of jobs board users (slice_set clients place after) logs ≡ with_progress kept place (change (progress_at kept place))
  moved jobs board users logs kept is =
      ap (λ plans. record (kept_of jobs board users clients logs) { world = record (kept_of jobs board users clients logs).world { clients = plans }; state = record { logs = logs; clients = map progress_in (slice_set clients place after) } }) plans-stay
      ∙ ap (λ clients'. record (kept_of jobs board users clients logs) { state = record { logs = logs; clients = clients' } }) progress-moves
      ∙ ap (λ k. with_progress k place (change (progress_at k place))) is

-- a place of what is kept is one of the clients
pub within-held : (jobs : List (Result DataLists BadSet)) (board : Board) (users : List Standing) (clients : List Held) (logs : Logs) (kept : Kept) (place : ℕ) → kept_of jobs board users clients logs ≡ kept → place < length kept.state.clients → place < length clients
within-held jobs board users clients logs kept place is there =
    subst (λ n. place < n) (length-map clients progress_in) (subst (λ (k : Kept). place < length k.state.clients) (sym is) there)

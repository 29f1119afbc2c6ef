-- What the order of a run is, and that the keeping of certificates changes nothing else.
use Rattle.std.specs.Prelude.{◌≡◌, ⊤, ℕ, ◌≤◌, Bool, IsErr, IsOk, IsTrue, List, [], ◌∷◌, Some, None, option_map}
use Rattle.mz_base.specs.declared.event.Event.{Event}
use Rattle.mz_base.specs.declared.report.Line.{Line}
use Rattle.mz_base.specs.declared.report.Word.TheVariants as word
use Rattle.keys.specs.declared.command.Command.{Command}
use Rattle.keys.specs.declared.command.Command.TheVariants as command
use Rattle.run_meaning.specs.Numbers.{is_number}
use Rattle.run_meaning.specs.Orders.{run, run_order}
use Rattle.run_meaning.specs.Plays.{IsComplete, play}
use Rattle.run_meaning.specs.States.{State, client_log_of}
use Rattle.run_meaning.specs.Worlds.{World, client_plan, job_at}

-- the order is legal, and its play is the run
abbrev pub RunIsPlayed : Type 0
RunIsPlayed = (world : World) → play world (run_order world) ≡ Some (run world)

-- it is complete, where the first set reads
abbrev pub RunIsComplete : Type 0
RunIsComplete = (world : World) → IsOk (job_at world 1) → IsComplete world (run_order world)

-- ---- Waits

-- How a wait for a job ends: with a job, where one of this number or a higher one reads; as not yet, where none does.
pub data IsWaitEnd (world : World) (wanted : ℕ) (line : Line) : Type 0 where
  reached : (job : ℕ) → wanted ≤ job → IsOk (job_at world job) → line.word ≡ word.Awaited → IsWaitEnd world wanted line
  not_reached : ((job : ℕ) → wanted ≤ job → IsErr (job_at world job)) → line.word ≡ word.NotYet → IsWaitEnd world wanted line

abbrev pub IsEnd : World → Command → Line → Type 0
IsEnd world (command.Await wanted) line = IsWaitEnd world wanted line
IsEnd world _ line = ⊤

-- a line for each command, and each wait ends so
abbrev pub AreEnds : World → List Command → List Line → Type 0
AreEnds world [] [] = ⊤
AreEnds world (c ∷ commands) (line ∷ lines) = IsEnd world c line × AreEnds world commands lines
AreEnds world _ _ = ⊥

-- the waits of each client end so in a run
abbrev pub WaitsEnd : Type 0
WaitsEnd =
    (world : World) (client : ℕ) → IsOk (job_at world 1) → IsTrue (is_number world.clients client) → AreEnds world (client_plan world client).commands (client_log_of (run world) client).lines

-- ---- Certificates

-- the world, with certificates kept or not
abbrev pub keeping : World → Bool → World
keeping world kept = record world { certificates = kept }

-- the state without its certificates
abbrev pub without : State → State
without state = record state { logs = record state.logs { certificates = None } }

-- the same lists are legal, and lead to the same but for certificates
abbrev pub CertificatesAside : Type 0
CertificatesAside =
    (world : World) (kept : Bool) (events : List Event) → option_map without (play (keeping world kept) events) ≡ option_map without (play world events)

-- the runs are the same but for certificates, and their orders are the same
pub record AreRunsAside (world : World) (kept : Bool) : Type 0 where
  pub runs : without (run (keeping world kept)) ≡ without (run world)
  pub orders : run_order (keeping world kept) ≡ run_order world

abbrev pub RunsAside : Type 0
RunsAside = (world : World) (kept : Bool) → AreRunsAside world kept

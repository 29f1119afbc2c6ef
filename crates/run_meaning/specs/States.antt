-- What stands after some events.
use Rattle.std.specs.Prelude.{ℕ, ◌==◌, Bool, false, List, [], Option, Some, None, filter, if◌then◌else◌, map, option_map}
use Rattle.mz_base.specs.declared.logs.CertEntry.{CertEntry}
use Rattle.mz_base.specs.declared.logs.ClientLog.{ClientLog}
use Rattle.mz_base.specs.declared.logs.Logs.{Logs}
use Rattle.mz_base.specs.declared.logs.UserEntry.{UserEntry}
use Rattle.mz_base.specs.declared.logs.UserLog.{UserLog}
use Rattle.keys.specs.declared.command.Command.{Command}
use Rattle.session_meaning.specs.Stages.{Pinned, Session, opening}
use Rattle.run_meaning.specs.Jobs.{is_published}
use Rattle.run_meaning.specs.Numbers.{at_number}
use Rattle.run_meaning.specs.Worlds.{ClientPlan, UserPlan, World, note_of}

-- How far a client is: its session, the commands to come, what has come for the next one (what it commits was learned, data
-- were taken), the highest job that the client has seen, the number of its learns, and whether it has ended.
pub record Progress : Type 0 where
  pub session : Session
  pub rest : List Command
  pub learned : Bool
  pub taken : Option Pinned
  pub seen : ℕ
  pub learns : ℕ
  pub ended : Bool

pub record State : Type 0 where
  pub logs : Logs
  pub clients : List Progress

-- ---- Before any event

abbrev pub begun_with : List Command → Progress
begun_with commands =
    record { session = opening; rest = commands; learned = false; taken = None; seen = 0; learns = 0; ended = false }

abbrev pub client_log : ClientPlan → ClientLog
client_log plan = record { name = plan.name; user = plan.user; lines = []; own = [] }

abbrev pub user_log : UserPlan → UserLog
user_log plan = record { name = plan.name; dicts = map note_of plan.reloads; entries = [] }

abbrev pub first_logs : World → Logs
first_logs world =
    record {
      clients = map client_log world.clients;
      jobs = [];
      closed = false;
      users = map user_log world.users;
      events = [];
      certificates = if world.certificates then Some [] else None;
    }

abbrev pub start : World → State
start world =
    record { logs = first_logs world; clients = map (λ (plan : ClientPlan). begun_with plan.commands) world.clients }

-- ---- What stands at a number

abbrev pub no_progress : Progress
no_progress = begun_with []

abbrev pub no_client_log : ClientLog
no_client_log = record { name = []; user = 0; lines = []; own = [] }

abbrev pub no_user_log : UserLog
no_user_log = record { name = []; dicts = []; entries = [] }

abbrev pub progress_of : State → ℕ → Progress
progress_of state client = at_number no_progress state.clients client

abbrev pub client_log_of : State → ℕ → ClientLog
client_log_of state client = at_number no_client_log state.logs.clients client

-- the journal of a user
unfoldable pub journal_of : State → ℕ → List UserEntry
journal_of state user = (at_number no_user_log state.logs.users user).entries

-- ---- One client alone

-- A client: its number, how far it is, its lines and own events, and its certificates, where such are kept.
pub record Client : Type 0 where
  pub number : ℕ
  pub progress : Progress
  pub log : ClientLog
  pub certificates : Option (List CertEntry)

-- the certificates of a client
abbrev pub certificates_of : ℕ → List CertEntry → List CertEntry
certificates_of client entries = filter (λ (entry : CertEntry). entry.client == client) entries

unfoldable pub client_at : State → ℕ → Client
client_at state client =
    record {
      number = client;
      progress = progress_of state client;
      log = client_log_of state client;
      certificates = option_map (certificates_of client) state.logs.certificates;
    }

-- ---- The first event

-- job 1 stands published
abbrev pub is_open : State → Bool
is_open state = is_published state.logs.jobs 1

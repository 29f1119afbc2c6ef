-- What a run is given.
use Rattle.std.specs.Prelude.{ℕ, ◌<◌, ◌^◌, All, Bool, IsOk, IsTrue, List, [], Result, Ok, Err, length}
use Rattle.mz_base.specs.Data.{DataLists}
use Rattle.mz_base.specs.declared.fault.FaultKind.TheVariants as kind
use Rattle.mz_base.specs.declared.fault.Role.TheVariants as role
use Rattle.mz_base.specs.declared.logs.DictNote.{DictNote}
use Rattle.mz_base.specs.declared.logs.DictNote.TheVariants as note
use Rattle.mz_base.specs.declared.status.BadSet.{BadSet}
use Rattle.mz_base.specs.declared.user.UserRow.{UserRow}
use Rattle.keys.specs.declared.command.Command.{Command}
use Rattle.run_meaning.specs.Numbers.{at_number, is_number}

-- What the file of a reload gives: the rows that are kept and the number of skipped ones; or the line that refuses it, which
-- is no text or one row too many.
pub data Reload : Type 0 where
  Read : List UserRow → ℕ → Reload
  NotUtf8 : ℕ → Reload
  Limit : ℕ → Reload

pub record UserPlan : Type 0 where
  pub name : List ℕ
  pub reloads : List Reload

pub record ClientPlan : Type 0 where
  pub name : List ℕ
  pub user : ℕ
  pub commands : List Command

-- A world: what the files of each job give, the users, the clients, and whether certificates are kept.
pub record World : Type 0 where
  pub jobs : List (Result DataLists BadSet)
  pub users : List UserPlan
  pub clients : List ClientPlan
  pub certificates : Bool

-- ---- What stands at a number

-- a set without data
abbrev pub no_lists : DataLists
no_lists =
    record { ids = 0; costs = []; features = []; unknown = []; joins = []; pos = []; rules = []; words = []; symbols = []; kanji = [] }

abbrev pub no_job : Result DataLists BadSet
no_job = Err (record { path = []; fault = record { role = role.Connection; nth = 0; kind = kind.Size } })

abbrev pub no_user : UserPlan
no_user = record { name = []; reloads = [] }

abbrev pub no_client : ClientPlan
no_client = record { name = []; user = 0; commands = [] }

-- what the files of a job give
abbrev pub job_at : World → ℕ → Result DataLists BadSet
job_at world job = at_number no_job world.jobs job

abbrev pub lists_in : Result DataLists BadSet → DataLists
lists_in (Ok lists) = lists
lists_in (Err bad) = no_lists

-- the set of a job that reads
abbrev pub lists_of : World → ℕ → DataLists
lists_of world job = lists_in (job_at world job)

abbrev pub user_at : World → ℕ → UserPlan
user_at world user = at_number no_user world.users user

abbrev pub reloads_of : World → ℕ → List Reload
reloads_of world user = (user_at world user).reloads

abbrev pub client_plan : World → ℕ → ClientPlan
client_plan world client = at_number no_client world.clients client

-- the user of a client
abbrev pub user_of : World → ℕ → ℕ
user_of world client = (client_plan world client).user

-- what is noted of a reload
abbrev pub note_of : Reload → DictNote
note_of (Read rows skipped) = note.Read (length rows) skipped
note_of (NotUtf8 line) = note.NotUtf8 line
note_of (Limit line) = note.Limit line

-- ---- Which worlds can be run

-- fewer than 2^32
abbrev pub IsCounted : {A : Type 0} → List A → Type 0
IsCounted items = length items < 2 ^ 32

-- the first set reads, the user of each client is there, and all numbers fit
pub record IsWorld (world : World) : Type 0 where
  pub first : IsOk (job_at world 1)
  pub users_there : All (λ (client : ClientPlan). IsTrue (is_number world.users client.user)) world.clients
  pub jobs : IsCounted world.jobs
  pub users : IsCounted world.users
  pub clients : IsCounted world.clients
  pub reloads : All (λ (user : UserPlan). IsCounted user.reloads) world.users
  pub commands : All (λ (client : ClientPlan). IsCounted client.commands) world.clients

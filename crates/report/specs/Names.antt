-- Numbers of clients, users and reloads, from 1, and whom they name in the logs of a run.
use Rattle.std.specs.Prelude.{ℕ, ◌-◌, ◌≤◌, ⊤, All, List, [], Option, Some, None, length, slice_index_or}
use Rattle.mz_base.specs.declared.event.Event.{Event}
use Rattle.mz_base.specs.declared.event.Event.TheVariants as event
use Rattle.mz_base.specs.declared.logs.CertEntry.{CertEntry}
use Rattle.mz_base.specs.declared.logs.ClientLog.{ClientLog}
use Rattle.mz_base.specs.declared.logs.Logs.{Logs}
use Rattle.mz_base.specs.declared.logs.UserEntry.{UserEntry}
use Rattle.mz_base.specs.declared.logs.UserEntry.TheVariants as entry
use Rattle.mz_base.specs.declared.logs.UserLog.{UserLog}

-- the number of one of these, from 1
pub record IsOneOf {A : Type 0} (list : List A) (number : ℕ) : Type 0 where
  pub first : 1 ≤ number
  pub last : number ≤ length list

abbrev pub no_client : ClientLog
no_client = record { name = []; user = 0; lines = []; own = [] }

abbrev pub no_user : UserLog
no_user = record { name = []; dicts = []; entries = [] }

-- the name of a client
abbrev pub client_name : Logs → ℕ → List ℕ
client_name logs number = (slice_index_or logs.clients (number - 1) no_client).name

-- the name of a user
abbrev pub user_name : Logs → ℕ → List ℕ
user_name logs number = (slice_index_or logs.users (number - 1) no_user).name

-- the user of each client is there
abbrev pub AreClientsNamed : Logs → Type 0
AreClientsNamed logs = All (λ client. IsOneOf logs.users client.user) logs.clients

-- the client, or the reload, of an entry of a user's journal is there
abbrev pub IsEntryNamed : Logs → UserLog → UserEntry → Type 0
IsEntryNamed logs user (entry.Learn client seq pairs) = IsOneOf logs.clients client
IsEntryNamed logs user (entry.Dict reload) = IsOneOf user.dicts reload
IsEntryNamed logs user (entry.End client count) = IsOneOf logs.clients client

abbrev pub AreEntriesNamed : Logs → UserLog → Type 0
AreEntriesNamed logs user = All (IsEntryNamed logs user) user.entries

abbrev pub AreUsersNamed : Logs → Type 0
AreUsersNamed logs = All (AreEntriesNamed logs) logs.users

-- the user, or the client, of an event is there
abbrev pub IsEventNamed : Logs → Event → Type 0
IsEventNamed logs (event.Job job outcome) = ⊤
IsEventNamed logs (event.Dict user reload) = IsOneOf logs.users user
IsEventNamed logs (event.Learn client) = IsOneOf logs.clients client
IsEventNamed logs (event.Take client job) = IsOneOf logs.clients client
IsEventNamed logs (event.Await client job) = IsOneOf logs.clients client
IsEventNamed logs (event.NotYet client) = IsOneOf logs.clients client
IsEventNamed logs (event.Step client) = IsOneOf logs.clients client
IsEventNamed logs (event.End client) = IsOneOf logs.clients client
IsEventNamed logs event.Close = ⊤

abbrev pub AreEventsNamed : Logs → Type 0
AreEventsNamed logs = All (IsEventNamed logs) logs.events

-- the client of each certificate is there
abbrev pub AreAllNamed : Logs → List CertEntry → Type 0
AreAllNamed logs entries = All (λ entry. IsOneOf logs.clients entry.client) entries

abbrev pub AreKept : Logs → Option (List CertEntry) → Type 0
AreKept logs None = ⊤
AreKept logs (Some entries) = AreAllNamed logs entries

abbrev pub AreCertificatesNamed : Logs → Type 0
AreCertificatesNamed logs = AreKept logs logs.certificates

-- each number of a user, a client or a reload that a report writes of names one that is there
pub record AreNamed (logs : Logs) : Type 0 where
  pub clients : AreClientsNamed logs
  pub users : AreUsersNamed logs
  pub events : AreEventsNamed logs
  pub certificates : AreCertificatesNamed logs

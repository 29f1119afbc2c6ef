-- What the program's answer says, and what it writes: docs/FORMATS.md, "Statuses".
use Rattle.std.specs.Prelude.{[], ◌≡◌, ⊤, ℕ, Bool, true, false, List, ◌++◌, Option, Result, Ok, Err, if◌then◌else◌, codes, length, nat_lt}
use Rattle.std.specs.List.{list_any}
use Rattle.std.specs.Fmt.{signed_decimal}
use Rattle.mz_base.specs.Answers.{◌>>=◌}
use Rattle.mz_base.specs.Data.{DataLists}
use Rattle.mz_base.specs.declared.lattice.Certificate.{Certificate}
use Rattle.mz_base.specs.declared.status.CertFault.{CertFault}
use Rattle.conversion_text.specs.Texts.{conversion_text}
use Rattle.mz_base.specs.declared.report.Line.{Line}
use Rattle.mz_base.specs.declared.report.Word.{Word}
use Rattle.mz_base.specs.declared.report.Word.TheVariants.{Differs, NotYet}
use Rattle.mz_base.specs.declared.status.Limit.TheVariants.{Report}
use Rattle.mz_base.specs.declared.status.Status.{Status}
use Rattle.mz_base.specs.declared.status.Status.TheVariants as status
use Rattle.mz_outside.specs.Taken.{with_more, AddsFront}
use Rattle.conversion_meaning.specs.Answers.{answer}
use Rattle.conversion_meaning.specs.declared.rules.TheConstants.{RULE_ORDER}
use Rattle.world_files.specs.Conversions.{IsVerdictOn}
use Rattle.run_meaning.specs.Orders.{run}
use Rattle.run_meaning.specs.Worlds.{World}
use Rattle.mozc_cli.specs.Replays.{replayed_in}
use Rattle.world_files.specs.Queries.{Claimed, query_set, query_claim}
use Rattle.world_files.specs.declared.query.Query.{Query}
use Rattle.world_files.specs.Reading.{Files, UnlessFree}
use Rattle.report.specs.Texts.{report_text}
use Rattle.report.specs.declared.room.TheConstants.{MOST_REPORT_BYTES}
use Rattle.mz_base.specs.declared.logs.ClientLog.{ClientLog}
use Rattle.mz_base.specs.declared.logs.Logs.{Logs}
use Rattle.world_files.specs.Worlds.{listing, replay, world}
use Rattle.mozc_cli.specs.declared.args.Request.{Request}
use Rattle.mozc_cli.specs.declared.args.Request.TheVariants as request
use Rattle.mz_base.specs.declared.status.Refusal.{Refusal}
use Rattle.mz_base.specs.declared.status.Refusal.TheVariants as refusal

-- the line says that what was expected was not found, or that what was waited for did not come
abbrev pub is_unmet_word : Word → Bool
is_unmet_word Differs = true
is_unmet_word NotYet = true
is_unmet_word _ = false

abbrev pub has_unmet : List Line → Bool
has_unmet lines = list_any (λ line. is_unmet_word line.word) lines

-- what a command writes, and whether a line of it is unmet
pub record Output : Type 0 where
  pub text : List ℕ
  pub unmet : Bool

-- a line of a client is unmet
abbrev pub is_unmet : Logs → Bool
is_unmet logs = list_any (λ (client : ClientLog). has_unmet client.lines) logs.clients

-- the report of logs
abbrev pub output_of : Logs → Output
output_of logs = record { text = report_text logs; unmet = is_unmet logs }

abbrev pub list_output : List ℕ → Output
list_output text = record { text = text; unmet = false }

-- an output that is not too large
abbrev pub limited : Output → Result Output Refusal
limited output = if nat_lt MOST_REPORT_BYTES (length output.text) then Err (refusal.TooLarge Report) else Ok output

-- the report of a world's run
abbrev pub run_output : World → Result Output Refusal
run_output world = limited (output_of (run world).logs)

-- what running the clients of a manifest gives
abbrev pub run_meant : Files → List ℕ → Result Output Refusal
run_meant files name = world files name >>= run_output

-- the report of what the schedule in a file of these bytes leads to
abbrev pub replay_output : World → List ℕ → Result Output Refusal
replay_output world bytes = replayed_in world bytes >>= (λ state. limited (output_of state.logs))

-- what replaying a schedule of a manifest gives
abbrev pub replay_meant : Files → List ℕ → List ℕ → Result Output Refusal
replay_meant files name schedule =
    replay files name schedule >>= (λ given. replay_output given.world given.schedule)

-- what checking a manifest gives: the listing of its data sets and its users' dictionaries
abbrev pub check_meant : Files → List ℕ → Result Output Refusal
check_meant files name = listing files name >>= (λ text. Ok (list_output text))

-- what the text of a key's answer gives, by a data set with no user words and no history
abbrev pub answered : List ℕ → List ℕ → DataLists → Result Output Refusal
answered key bounds set = limited (list_output (conversion_text key (answer set [] [] RULE_ORDER key bounds)))

-- what converting a key gives: its answer by the data set that is asked
abbrev pub convert_meant : Files → Query → List ℕ → Result Output Refusal
convert_meant files query bounds = query_set files query >>= answered query.key bounds

-- what is written of a certificate that holds, or its first fault
abbrev pub verdict_output : Certificate → Result (Unit {0}) CertFault → Result Output Refusal
verdict_output certificate (Ok _) =
    limited (list_output (codes "ok\t" ++ (signed_decimal certificate.total ++ codes "\n")))
verdict_output certificate (Err fault) = Err (refusal.BadCertificate fault)

-- what a certificate's test gives
abbrev pub MeansVerdict : List ℕ → Result Claimed Refusal → Result Output Refusal → Type 0
MeansVerdict key (Err refused) meant = meant ≡ Err refused
MeansVerdict key (Ok claimed) meant =
    (verdict : Result (Unit {0}) CertFault) × IsVerdictOn claimed.set key claimed.certificate verdict × (meant ≡ verdict_output claimed.certificate verdict)

-- What a command gives: what it writes, or the first refusal in the order of work.
abbrev pub Means : Files → Request → Result Output Refusal → Type 0
Means files (request.Run name) meant = meant ≡ run_meant files name
Means files (request.Replay name schedule) meant = meant ≡ replay_meant files name schedule
Means files (request.Check name) meant = meant ≡ check_meant files name
Means files (request.Convert query bounds) meant = meant ≡ convert_meant files query bounds
Means files (request.Verify query name) meant = MeansVerdict query.key (query_claim files query name) meant

-- the output was written whole, and a line of it is unmet, or none is
pub record IsWritten (Gives : Result Output Refusal → Type 0) (unmet : Bool) (before after : Option (List ℕ)) : Type 0 where
  pub text : List ℕ
  pub gives : Gives (Ok (record { text = text; unmet = unmet }))
  pub written : after ≡ with_more before text

-- a prefix of the output was written
pub record IsCutShort (Gives : Result Output Refusal → Type 0) (before after : Option (List ℕ)) : Type 0 where
  pub output : Output
  pub gives : Gives (Ok output)
  pub front : AddsFront before after output.text

-- The command is refused, and nothing was written. A free refusal says nothing of what the command gives.
pub record IsRefused (Gives : Result Output Refusal → Type 0) (before after : Option (List ℕ)) (refused : Refusal) : Type 0 where
  pub gives : UnlessFree refused (Gives (Err refused))
  pub silent : after ≡ before

-- What a status says of what the command gives, and what was written. Words that are no command have `Usage`, and no other
-- status comes than these four; when a fault comes, other clauses say.
abbrev pub Settles : (Result Output Refusal → Type 0) → Option (List ℕ) → Option (List ℕ) → Status → Type 0
Settles Gives before after status.Ok = IsWritten Gives false before after
Settles Gives before after status.Unmet = IsWritten Gives true before after
Settles Gives before after status.WriteFault = IsCutShort Gives before after
Settles Gives before after (status.Refused refused) = IsRefused Gives before after refused
Settles Gives before after status.Usage = ⊥

-- nothing was written, where the words are no command and where it is refused
abbrev pub IsSilent : Option (List ℕ) → Option (List ℕ) → Status → Type 0
IsSilent before after (status.Refused refused) = after ≡ before
IsSilent before after status.Usage = after ≡ before
IsSilent before after _ = ⊤

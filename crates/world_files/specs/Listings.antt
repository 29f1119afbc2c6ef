-- What `check` writes of a manifest: docs/FORMATS.md, "The listing of data sets".
use Rattle.std.specs.Prelude.{ℕ, ◌+◌, ◌&&◌, Bool, not, List, [], ◌∷◌, ◌++◌, is_none, Result, Ok, Err, if◌then◌else◌, codes, encode_utf8_all, length, nat_lt}
use Rattle.std.specs.List.{flat_map}
use Rattle.std.specs.Fmt.{decimal}
use Rattle.conversion_meaning.specs.Entries.{suppressed}
use Rattle.mz_base.specs.Data.{DataLists, is_text, pos_of}
use Rattle.mz_base.specs.declared.status.Limit.TheVariants.{Report}
use Rattle.mz_base.specs.declared.status.Refusal.{Refusal}
use Rattle.mz_base.specs.declared.status.Refusal.TheVariants as refusal
use Rattle.mz_base.specs.declared.user.UserRow.{UserRow}
use Rattle.report.specs.Texts.{note_text}
use Rattle.report.specs.declared.room.TheConstants.{MOST_REPORT_BYTES}
use Rattle.user_dict.specs.Rows.{Taken}
use Rattle.user_dict.specs.declared.skipped.Skip.{Skip}
use Rattle.user_dict.specs.declared.skipped.Skip.TheVariants as skip
use Rattle.user_dict.specs.declared.skipped.SkippedLine.{SkippedLine}
use Rattle.world_files.specs.DataSets.{NamedSet, set_text}
use Rattle.world_files.specs.Reloads.{Reload, note_of}
use Rattle.world_files.specs.Users.{user_of}
use Rattle.world_files.specs.declared.reload.DictFault.{DictFault}
use Rattle.world_files.specs.declared.users.User.{User}

-- a name of a reason to skip a line
abbrev pub skip_word : Skip → List ℕ
skip_word skip.Fields = codes "fields"
skip_word skip.Reading = codes "reading"
skip_word skip.Word = codes "word"
skip_word skip.Limit = codes "limit"

-- a line that was skipped
abbrev pub skipped_text : SkippedLine → List ℕ
skipped_text line = codes "skip\t" ++ (decimal line.line ++ (codes "\t" ++ (skip_word line.why ++ codes "\n")))

-- the row's part of speech is not 抑制単語, and the set lacks it
abbrev pub lacks_part : DataLists → UserRow → Bool
lacks_part set row = not (is_text suppressed row.pos) && is_none (pos_of set row.pos)

-- a line for a row whose part of speech the set lacks
abbrev pub row_text : NamedSet → UserRow → List ℕ
row_text set row =
    if lacks_part set.lists row then codes "pos\t" ++ (encode_utf8_all set.name ++ (codes "\t" ++ (decimal row.line ++ codes "\n"))) else []

abbrev pub rows_text : List UserRow → NamedSet → List ℕ
rows_text rows set = flat_map (row_text set) rows

-- of a reload that reads, the lines that were skipped, and then for each set the rows whose part of speech it lacks
abbrev pub given_text : List NamedSet → Result Taken DictFault → List ℕ
given_text sets (Ok taken) = flat_map skipped_text taken.skipped ++ flat_map (rows_text taken.rows) sets
given_text sets (Err fault) = []

-- the reload of this number of a user
abbrev pub reload_text : List NamedSet → List ℕ → ℕ → Reload → List ℕ
reload_text sets user number reload =
    codes "dict\t" ++ (encode_utf8_all user ++ (codes "\t" ++ (decimal number ++ (note_text (note_of reload) ++ (codes "\n" ++ given_text sets reload.gives)))))

-- the reloads of a user, numbered from here
abbrev pub reloads_text : List NamedSet → List ℕ → ℕ → List Reload → List ℕ
reloads_text sets user number [] = []
reloads_text sets user number (reload ∷ reloads) =
    reload_text sets user number reload ++ reloads_text sets user (number + 1) reloads

abbrev pub user_text : List NamedSet → User → List ℕ
user_text sets user = reloads_text sets user.name 1 user.reloads

-- the users of these names, numbered from here
abbrev pub users_text : List NamedSet → List Reload → ℕ → List (List ℕ) → List ℕ
users_text sets reloads number [] = []
users_text sets reloads number (name ∷ names) =
    user_text sets (user_of reloads number name) ++ users_text sets reloads (number + 1) names

-- the data sets, and then the users' dictionaries
abbrev pub listing_text : List NamedSet → List Reload → List (List ℕ) → List ℕ
listing_text sets reloads users = flat_map set_text sets ++ users_text sets reloads 1 users

-- a listing that is not too large
abbrev pub limited_text : List ℕ → Result (List ℕ) Refusal
limited_text text = if nat_lt MOST_REPORT_BYTES (length text) then Err (refusal.TooLarge Report) else Ok text

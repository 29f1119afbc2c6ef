-- The commands of a script, line by line, and its first line that is bad or passes the limit: docs/FORMATS.md, "Scripts".
use Rattle.std.specs.Prelude.{ℕ, ◌+◌, ◌&&◌, Bool, not, List, [], ◌∷◌, ◌++◌, Option, Some, None, is_none, option_map, option_and_then, option_to_list, Result, Ok, Err, if◌then◌else◌, codes, length, bytes_eq, nat_le}
use Rattle.std.specs.List.{list_all, flat_map}
use Rattle.std.specs.Str.{chars, is_utf8}
use Rattle.keys.specs.Names.{key_of, key_of_char}
use Rattle.keys.specs.declared.command.Command.{Command}
use Rattle.keys.specs.declared.command.Command.TheVariants as command
use Rattle.keys.specs.declared.key.Key.{Key}
use Rattle.mz_base.specs.Answers.{◌>>=◌}
use Rattle.mz_base.specs.Lines.{fields_of, is_skipped}
use Rattle.mz_base.specs.Numbers.{number_of}
use Rattle.mz_base.specs.declared.status.Limit.TheVariants.{Commands}
use Rattle.scenario.specs.declared.script.ScriptError.{ScriptError}
use Rattle.scenario.specs.declared.script.ScriptError.TheVariants.{Bad, TooLarge}
use Rattle.scenario.specs.declared.script.TheConstants.{MOST_COMMANDS, MOST_KEYS, MOST_NUMBER}

-- one command
abbrev pub one : Command → List Command
one c = c ∷ []

-- the command of a key, where there is one
abbrev pub pressed : Option Key → Option Command
pressed None = None
pressed (Some key) = Some (command.Key key)

-- a character that is a key
abbrev pub is_key : ℕ → Bool
is_key c = not (is_none (key_of_char c))

-- what a typed character asks
abbrev pub typed : ℕ → List Command
typed c = option_to_list (pressed (key_of_char c))

-- the keys of a text that is not too long, one for each character
unfoldable pub keys_of : List ℕ → Option (List Command)
keys_of text =
    if nat_le 1 (length text) && (nat_le (length text) MOST_KEYS && list_all is_key text) then Some (flat_map typed text) else None

-- a number that is not too high
abbrev pub in_range : ℕ → Option ℕ
in_range n = if nat_le 1 n && nat_le n MOST_NUMBER then Some n else None

-- the number of a candidate, or of a job
abbrev pub number_in : List ℕ → Option ℕ
number_in field = option_and_then in_range (number_of field)

-- the commands of a word and a text
unfoldable pub spelled : List ℕ → List ℕ → Option (List Command)
spelled word text =
    if bytes_eq word (codes "SEND_KEYS") then keys_of text else
    if bytes_eq word (codes "SEND_KEY") then option_map one (pressed (key_of text)) else
    if bytes_eq word (codes "EXPECT_PREEDIT") then Some (one (command.ExpectPreedit text)) else
    if bytes_eq word (codes "EXPECT_RESULT") then Some (one (command.ExpectResult text)) else
    None

-- the commands of a word and a field
unfoldable pub with_field : List ℕ → List ℕ → Option (List Command)
with_field word field =
    if bytes_eq word (codes "SELECT") then option_map one (option_map (λ n. command.Select n) (number_in field)) else
    if bytes_eq word (codes "AWAIT") then option_map one (option_map (λ n. command.Await n) (number_in field)) else
    spelled word (chars field)

-- the command of a word alone; an expected text may be missing, and is empty then
unfoldable pub alone : List ℕ → Option (List Command)
alone word =
    if bytes_eq word (codes "RESET") then Some (one command.Reset) else
    if bytes_eq word (codes "EXPECT_PREEDIT") then Some (one (command.ExpectPreedit [])) else
    if bytes_eq word (codes "EXPECT_RESULT") then Some (one (command.ExpectResult [])) else
    None

-- the commands of a line's fields
abbrev pub commands_in : List (List ℕ) → Option (List Command)
commands_in (word ∷ []) = alone word
commands_in (word ∷ field ∷ []) = with_field word field
commands_in _ = None

-- the commands of a line; it is bad where it has none, and one that is no text is bad, also where it would be skipped
unfoldable pub commands_of : List ℕ → Option (List Command)
commands_of line =
    if not (is_utf8 line) then None else
    if is_skipped line then Some [] else
    commands_in (fields_of line)

-- the commands before and a line's, or the line is bad
abbrev pub added : ℕ → List Command → Option (List Command) → Result (List Command) ScriptError
added number before None = Err (Bad number)
added number before (Some more) = Ok (before ++ more)

-- so many commands, or the line passes the limit
abbrev pub within : ℕ → List Command → Result (List Command) ScriptError
within number commands =
    if nat_le (length commands) MOST_COMMANDS then Ok commands else Err (TooLarge Commands number)

-- the commands before and a line's
unfoldable pub with_line : ℕ → List Command → List ℕ → Result (List Command) ScriptError
with_line number before line = added number before (commands_of line) >>= within number

-- the commands before, and then those of these lines; the first of them has this number
abbrev pub script_after : List Command → ℕ → List (List ℕ) → Result (List Command) ScriptError
script_after before number [] = Ok before
script_after before number (line ∷ lines) =
    with_line number before line >>= (λ more. script_after more (number + 1) lines)

-- The commands of these lines; or the first line that is bad or passes the limit.
unfoldable pub script_of : List (List ℕ) → Result (List Command) ScriptError
script_of lines = script_after [] 1 lines

-- The keys of a script are fields of a report.
use Rattle.std.proofs.Common.{◌≡◌, ℕ, ◌+◌, Bool, true, false, ◌&&◌, nat_le, if◌then◌else◌, codes, bytes_eq, is_none, List, [], ◌∷◌, ◌++◌, length, Option, Some, None, option_map, option_to_list, Result, Ok, Err, not, refl, sym, subst, inl, inr}
use Rattle.std.specs.List.{All, flat_map, list_all}
use Rattle.std.specs.Str.{chars, is_utf8}
use Rattle.std.proofs.lemmas.Bool.{cases_Bool}
use Rattle.std.proofs.lemmas.List.Concat.{flat_map-cons}
use Rattle.std.proofs.lemmas.List.Elements.{All-append, All-cons, All-nil}
use Rattle.mz_base.specs.Answers.{◌>>=◌}
use Rattle.mz_base.specs.Lines.{fields_of, is_skipped, lines_of}
use Rattle.mz_base.proofs.AnswerLemmas.{part_gave}
use Rattle.keys.specs.Names.{key_of, key_of_char}
use Rattle.keys.specs.declared.command.Command.{Command}
use Rattle.keys.specs.declared.command.Command.TheVariants as command
use Rattle.keys.specs.declared.key.Key.{Key}
use Rattle.scenario.specs.Scripts.{added, alone, commands_in, commands_of, is_key, keys_of, number_in, one, pressed, script_after, script_of, spelled, typed, with_field, with_line, within}
use Rattle.scenario.specs.declared.script.ScriptError.{ScriptError}
use Rattle.scenario.specs.declared.script.ScriptError.TheVariants.{Bad, TooLarge}
use Rattle.scenario.specs.declared.script.TheConstants.{MOST_COMMANDS, MOST_KEYS}
use Rattle.mz_base.specs.declared.status.Limit.TheVariants.{Commands}
use Rattle.session_meaning.specs.Fields.{IsCommandField, IsKeyField}
use Rattle.session_meaning.proofs.KeyFields.{keys-are_fields}
use Rattle.field_laws.specs.FieldLaws.{ScriptsAreFields}

abbrev Are : List Command → Type 0
Are commands = All IsCommandField commands

-- what a line gives has such keys alone
abbrev Gives : Option (List Command) → Type 0
Gives found = (commands : List Command) → found ≡ Some commands → Are commands

none-gives : Gives None
none-gives commands is = absurd cc

one-are : (c : Command) → IsCommandField c → Are (one c)
one-are c is = All-cons IsCommandField c [] is (All-nil IsCommandField)

some-gives : (commands : List Command) → Are commands → Gives (Some commands)
some-gives commands are others is = let same : commands ≡ others = cc in subst Are same are

-- ---- Keys

-- a character that is a key is the key of that name
typed-char : (c : ℕ) (k : Key) → key_of_char c ≡ Some k → IsKeyField k
unfolding key_of
typed-char c k is = keys-are_fields (c ∷ []) k is

typed-are : (c : ℕ) → Are (typed c)
typed-are c = by_key (key_of_char c) refl
  where
    by_key : (found : Option Key) → key_of_char c ≡ found → Are (option_to_list (pressed found))
    by_key None is = All-nil IsCommandField
    by_key (Some k) is = one-are (command.Key k) (typed-char c k is)

all-typed : (text : List ℕ) → Are (flat_map typed text)
all-typed [] = All-nil IsCommandField
all-typed (c ∷ text) =
    subst Are (sym (flat_map-cons typed c text)) (All-append IsCommandField (typed c) (flat_map typed text) (typed-are c) (all-typed text))

keys-give : (text : List ℕ) → Gives (keys_of text)
unfolding keys_of
keys-give text =
    by_test (nat_le 1 (length text) && (nat_le (length text) MOST_KEYS && list_all is_key text))
  where
    by_test : (b : Bool) → Gives (if b then Some (flat_map typed text) else None)
    by_test true = some-gives (flat_map typed text) (all-typed text)
    by_test false = none-gives

key-gives : (name : List ℕ) → Gives (option_map one (pressed (key_of name)))
key-gives name = by_key (key_of name) refl
  where
    by_key : (found : Option Key) → key_of name ≡ found → Gives (option_map one (pressed found))
    by_key None is = none-gives
    by_key (Some k) is = some-gives (one (command.Key k)) (one-are (command.Key k) (keys-are_fields name k is))

-- ---- Lines

spelled-gives : (word text : List ℕ) → Gives (spelled word text)
unfolding spelled
spelled-gives word text =
    by_tests (bytes_eq word (codes "SEND_KEYS")) (bytes_eq word (codes "SEND_KEY")) (bytes_eq word (codes "EXPECT_PREEDIT")) (bytes_eq word (codes "EXPECT_RESULT"))
  where
    by_tests : (a b c d : Bool) → Gives (if a then keys_of text else (if b then option_map one (pressed (key_of text)) else (if c then Some (one (command.ExpectPreedit text)) else (if d then Some (one (command.ExpectResult text)) else None))))
    by_tests true b c d = keys-give text
    by_tests false true c d = key-gives text
    by_tests false false true d =
        some-gives (one (command.ExpectPreedit text)) (one-are (command.ExpectPreedit text) tt)
    by_tests false false false true =
        some-gives (one (command.ExpectResult text)) (one-are (command.ExpectResult text) tt)
    by_tests false false false false = none-gives

number-gives : (make : ℕ → Command) → ((n : ℕ) → IsCommandField (make n)) → (number : Option ℕ) → Gives (option_map one (option_map make number))
number-gives make is None = none-gives
number-gives make is (Some n) = some-gives (one (make n)) (one-are (make n) (is n))

field-gives : (word field : List ℕ) → Gives (with_field word field)
unfolding with_field
field-gives word field =
    by_tests (bytes_eq word (codes "SELECT")) (bytes_eq word (codes "AWAIT"))
  where
    by_tests : (a b : Bool) → Gives (if a then option_map one (option_map (λ n. command.Select n) (number_in field)) else (if b then option_map one (option_map (λ n. command.Await n) (number_in field)) else spelled word (chars field)))
    by_tests true b = number-gives (λ n. command.Select n) (λ n. tt) (number_in field)
    by_tests false true = number-gives (λ n. command.Await n) (λ n. tt) (number_in field)
    by_tests false false = spelled-gives word (chars field)

alone-gives : (word : List ℕ) → Gives (alone word)
unfolding alone
alone-gives word =
    by_tests (bytes_eq word (codes "RESET")) (bytes_eq word (codes "EXPECT_PREEDIT")) (bytes_eq word (codes "EXPECT_RESULT"))
  where
    by_tests : (a b c : Bool) → Gives (if a then Some (one command.Reset) else (if b then Some (one (command.ExpectPreedit [])) else (if c then Some (one (command.ExpectResult [])) else None)))
    by_tests true b c = some-gives (one command.Reset) (one-are command.Reset tt)
    by_tests false true c =
        some-gives (one (command.ExpectPreedit [])) (one-are (command.ExpectPreedit []) tt)
    by_tests false false true =
        some-gives (one (command.ExpectResult [])) (one-are (command.ExpectResult []) tt)
    by_tests false false false = none-gives

fields-give : (fields : List (List ℕ)) → Gives (commands_in fields)
fields-give [] = none-gives
fields-give (word ∷ []) = alone-gives word
fields-give (word ∷ field ∷ []) = field-gives word field
fields-give (word ∷ field ∷ more ∷ fields) = none-gives

line-gives : (line : List ℕ) → Gives (commands_of line)
unfolding commands_of
line-gives line =
    by_text (is_utf8 line)
  where
    by_skip : (b : Bool) → Gives (if b then Some [] else commands_in (fields_of line))
    by_skip true = some-gives [] (All-nil IsCommandField)
    by_skip false = fields-give (fields_of line)

    by_text : (b : Bool) → Gives (if not b then None else (if is_skipped line then Some [] else commands_in (fields_of line)))
    by_text true = by_skip (is_skipped line)
    by_text false = none-gives

-- ---- The whole script

added-are : (number : ℕ) (before : List Command) (found : Option (List Command)) (all : List Command) → Are before → Gives found → added number before found ≡ Ok all → Are all
added-are number before None all are gives is = absurd cc
added-are number before (Some more) all are gives is =
    let same : before ++ more ≡ all = cc in
    subst Are same (All-append IsCommandField before more are (gives more refl))

within-are : (number : ℕ) (commands all : List Command) → Are commands → within number commands ≡ Ok all → Are all
within-are number commands all are is =
    elim (cases_Bool (nat_le (length commands) MOST_COMMANDS)) [
      | inl few ↦
          let here : Ok commands ≡ Ok all = rw few at is in
          let same : commands ≡ all = cc in subst Are same are
      | inr many ↦ let never : Err (TooLarge Commands number) ≡ Ok all = rw many at is in absurd cc
    ]

line-are : (number : ℕ) (before : List Command) (line : List ℕ) (all : List Command) → Are before → with_line number before line ≡ Ok all → Are all
unfolding with_line
line-are number before line all are is =
    let (more, read, rest) = part_gave (added number before (commands_of line)) (within number) all is in
    within-are number more all (added-are number before (commands_of line) more are (line-gives line) read) rest

script-are : (before : List Command) (number : ℕ) (lines : List (List ℕ)) (all : List Command) → Are before → script_after before number lines ≡ Ok all → Are all
script-are before number [] all are is =
    let same : before ≡ all = cc in subst Are same are
script-are before number (line ∷ lines) all are is =
    let (more, read, rest) = part_gave (with_line number before line) (λ more. script_after more (number + 1) lines) all is in
    script-are more (number + 1) lines all (line-are number before line more are read) rest

pub scripts-are_fields : ScriptsAreFields
unfolding script_of
scripts-are_fields bytes commands is =
    script-are [] 1 (lines_of bytes) commands (All-nil IsCommandField) is

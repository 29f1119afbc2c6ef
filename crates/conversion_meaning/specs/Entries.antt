-- The entries of a key, in their order: docs/CONVERSION.md, "Entries".
use Rattle.std.specs.Prelude.{ℕ, ◌+◌, ◌-◌, ◌==◌, ℤ, Bool, true, false, not, ◌&&◌, ◌||◌, List, [], ◌∷◌, ◌++◌, map, filter_map, Option, None, if◌then◌else◌, length, nat_lt, nat_le, slice_index, slice_range}
use Rattle.std.specs.List.{flat_map, list_all, list_any, range_with_len}
use Rattle.std.specs.Option.{option_map}
use Rattle.mz_base.specs.Classes.{class_of}
use Rattle.mz_base.specs.Data.{DataLists, class_place, is_text, pos_of, readings, rows_with, unknown_of, word_at}
use Rattle.mz_base.specs.Users.{user_row_at, user_rows_with}
use Rattle.mz_base.specs.declared.data.Class.{Class}
use Rattle.mz_base.specs.declared.data.Class.TheVariants.{Hiragana, Katakana, Digit, Letter, Other}
use Rattle.mz_base.specs.declared.lattice.Entry.{Entry}
use Rattle.mz_base.specs.declared.lattice.Source.{Source}
use Rattle.mz_base.specs.declared.lattice.Source.TheVariants.{User, Word, Char, Run}
use Rattle.mz_base.specs.declared.user.UserRow.{UserRow}

-- the part of speech 抑制単語: a row with it gives no entry
abbrev pub suppressed : List ℕ
suppressed = 0x6291 ∷ 0x5236 ∷ 0x5358 ∷ 0x8A9E ∷ []

-- an entry with one id on both sides
abbrev pub entry_of : Source → ℕ → ℕ → ℕ × ℤ → Entry
entry_of source begin end node =
    record { begin = begin; end = end; lid = node.0; rid = node.0; cost = node.1; source = source }

-- the entry of a user row, where the set has its part of speech
abbrev pub user_entry : DataLists → List UserRow → ℕ → ℕ → ℕ → Option Entry
user_entry d rows begin end place =
    let part = (user_row_at rows place).pos in
    if is_text suppressed part then None else option_map (entry_of (User place) begin end) (pos_of d part)

-- the entry of a word row
abbrev pub word_entry : DataLists → ℕ → ℕ → ℕ → Entry
word_entry d begin end row =
    let word = word_at d row in
    record { begin = begin; end = end; lid = word.lid; rid = word.rid; cost = word.cost; source = Word row }

-- the class of the character at a position; OTHER past the end
abbrev pub class_at : List ℕ → ℕ → Class
class_at key position = class_of (slice_index key position)

-- the entry of the text itself, by the class of its first character
abbrev pub node : DataLists → List ℕ → Source → ℕ → ℕ → Entry
node d key source begin end = entry_of source begin end (unknown_of d (class_at key begin))

-- the character is of this class
abbrev pub is_of : Class → ℕ → Bool
is_of class c = class_place (class_of c) == class_place class

-- a class whose runs are entries
abbrev pub makes_runs : Class → Bool
makes_runs Hiragana = false
makes_runs Katakana = true
makes_runs Digit = true
makes_runs Letter = true
makes_runs Other = false

-- no character of this class stands before
abbrev pub starts_run : Class → List ℕ → ℕ → Bool
starts_run class key begin = begin == 0 || not (is_of class (slice_index key (begin - 1)))

-- no character of this class follows
abbrev pub ends_run : Class → List ℕ → ℕ → Bool
ends_run class key end = end == length key || not (is_of class (slice_index key end))

-- a maximal run of two or more characters of one class, whose runs are entries
unfoldable pub is_run : List ℕ → ℕ → ℕ → Bool
is_run key begin end =
    let class = class_at key begin in
    (nat_le (begin + 2) end && makes_runs class) && (list_all (is_of class) (slice_range key begin end) && (starts_run class key begin && ends_run class key end))

-- 1. the user rows whose reading is the text of the range, in the dictionary's order
unfoldable pub user_entries : DataLists → List UserRow → List ℕ → ℕ → ℕ → List Entry
user_entries d rows key begin end =
    filter_map (user_entry d rows begin end) (user_rows_with rows (slice_range key begin end))

-- 2. the word rows whose reading is the text of the range, in file order
unfoldable pub word_entries : DataLists → List ℕ → ℕ → ℕ → List Entry
word_entries d key begin end = map (word_entry d begin end) (rows_with (readings d) (slice_range key begin end))

-- 3. the character, where the end is one past the begin
unfoldable pub char_entries : DataLists → List ℕ → ℕ → ℕ → List Entry
char_entries d key begin end = if end == begin + 1 then node d key Char begin end ∷ [] else []

-- 4. the run
unfoldable pub run_entries : DataLists → List ℕ → ℕ → ℕ → List Entry
run_entries d key begin end = if is_run key begin end then node d key Run begin end ∷ [] else []

-- a bound stands strictly inside the range
abbrev pub is_cut : List ℕ → ℕ → ℕ → Bool
is_cut bounds begin end = list_any (λ bound. nat_lt begin bound && nat_lt bound end) bounds

-- the entries of a range, in four groups; none where a bound cuts it
unfoldable pub entries_in : DataLists → List UserRow → List ℕ → List ℕ → ℕ → ℕ → List Entry
entries_in d rows key bounds begin end =
    if is_cut bounds begin end then [] else (
    user_entries d rows key begin end ++ (word_entries d key begin end ++ (char_entries d key begin end ++ run_entries d key begin end))
    )

-- the entries that begin here, by rising end
unfoldable pub entries_from : DataLists → List UserRow → List ℕ → List ℕ → ℕ → List Entry
entries_from d rows key bounds begin =
    flat_map (entries_in d rows key bounds begin) (range_with_len (begin + 1) (length key - begin))

-- The entries of a key, by rising begin. An entry's ordinal is its place in this list.
unfoldable pub entries : DataLists → List UserRow → List ℕ → List ℕ → List Entry
entries d rows key bounds = flat_map (entries_from d rows key bounds) (range_with_len 0 (length key))

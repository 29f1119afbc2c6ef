-- What a data set means, and what its look-ups answer: docs/FORMATS.md, "Data files".
use Rattle.std.specs.Prelude.{◌≡◌, ℕ, ◌+◌, ◌-◌, ◌*◌, ◌<◌, ◌≤◌, ℤ, pos, ◌≤ℤ◌, Bool, ◌&&◌, List, [], map, filter, find, length, count_by, nat_eq, nat_le, slice_index_or, slice_range, take, int_lt, encode_utf8_all, ◌∷◌, Option, IfSome}
use Rattle.std.specs.List.{All, starts_with, flat_map, list_any, range_with_len}
use Rattle.std.specs.Option.{option_map}
use lib.Pointwise.{pointwise}
use Rattle.mz_base.specs.Kana.{AreRules}
use Rattle.mz_base.specs.Ordered.{in_order}
use Rattle.mz_base.specs.declared.romaji.Rule.{Rule}
use Rattle.mz_base.specs.declared.data.TheConstants.{MOST_IDS, MOST_WORDS, MOST_HOMOPHONES, MOST_FIELD_BYTES, MOST_COST, LEAST_COST}
use Rattle.mz_base.specs.declared.data.Class.{Class}
use Rattle.mz_base.specs.declared.data.Class.TheVariants.{Hiragana, Katakana, Digit, Letter, Other}
use Rattle.mz_base.specs.declared.data.WordRow.{WordRow}
use Rattle.mz_base.specs.declared.data.UnknownRow.{UnknownRow}
use Rattle.mz_base.specs.declared.data.JoinRow.{JoinRow}
use Rattle.mz_base.specs.declared.data.PosRow.{PosRow}
use Rattle.mz_base.specs.declared.data.ValueRow.{ValueRow}
use Rattle.mz_base.specs.declared.data.WordView.{WordView}
use Rattle.mz_base.specs.declared.data.Hit.{Hit}
use Rattle.mz_base.specs.declared.data.FoundWord.{FoundWord}
use Rattle.mz_base.specs.declared.data.PricedRow.{PricedRow}
use Rattle.mz_base.specs.declared.data.IdRow.{IdRow}

-- The lists of a data set: the number of ids, the costs row by row, the features of ids, the five rows of the classes,
-- and the rows of its other files. A row of the kanji file has a reading and the characters for it.
pub record DataLists : Type 0 where
  pub ids : ℕ
  pub costs : List ℤ
  pub features : List IdRow
  pub unknown : List UnknownRow
  pub joins : List JoinRow
  pub pos : List PosRow
  pub rules : List Rule
  pub words : List WordRow
  pub symbols : List ValueRow
  pub kanji : List ValueRow

-- two texts are one
abbrev pub is_text : List ℕ → List ℕ → Bool
is_text text other = pointwise nat_eq other text

-- the cost of a word with the right id r before one with the left id l
unfoldable pub connection : DataLists → ℕ → ℕ → ℤ
connection d r l = slice_index_or d.costs (r * d.ids + l) (pos 0)

-- the row joins the right id r and the left id l
abbrev pub row_joins : ℕ → ℕ → JoinRow → Bool
row_joins r l row =
    (nat_le row.first_right r && nat_le r row.last_right) && (nat_le row.first_left l && nat_le l row.last_left)

-- some row joins them
unfoldable pub joins : DataLists → ℕ → ℕ → Bool
joins d r l = list_any (row_joins r l) d.joins

-- the place of a class among the rows of the classes
abbrev pub class_place : Class → ℕ
class_place Hiragana = 0
class_place Katakana = 1
class_place Digit = 2
class_place Letter = 3
class_place Other = 4

abbrev pub no_unknown : UnknownRow
no_unknown = record { id = 0; cost = pos 0 }

-- the id and the cost of a class
unfoldable pub unknown_of : DataLists → Class → ℕ × ℤ
unknown_of d class =
    let row = slice_index_or d.unknown (class_place class) no_unknown in (row.id, row.cost)

-- the id and the cost of a part of speech
unfoldable pub pos_of : DataLists → List ℕ → Option (ℕ × ℤ)
pos_of d name = option_map (λ (row : PosRow). (row.id, row.cost)) (find (λ row. is_text name row.name) d.pos)

abbrev pub no_word : WordRow
no_word = record { reading = []; lid = 0; rid = 0; cost = pos 0; value = [] }

-- a word row by its place
unfoldable pub word_at : DataLists → ℕ → WordRow
word_at d row = slice_index_or d.words row no_word

-- what a look-up lends is this word row
pub record IsWord (view : WordView) (row : WordRow) : Type 0 where
  pub reading_is : view.reading.now ≡ row.reading
  pub lid_is : view.lid ≡ row.lid
  pub rid_is : view.rid ≡ row.rid
  pub cost_is : view.cost ≡ row.cost
  pub value_is : view.value.now ≡ row.value

-- the readings of the word rows
abbrev pub readings : DataLists → List (List ℕ)
readings d = map (λ (row : WordRow). row.reading) d.words

-- the places of the texts that pass a test, rising
unfoldable pub places : (List ℕ → Bool) → List (List ℕ) → List ℕ
places passes texts = filter (λ i. passes (slice_index_or texts i [])) (range_with_len 0 (length texts))

-- the places of this text
abbrev pub rows_with : List (List ℕ) → List ℕ → List ℕ
rows_with texts text = places (is_text text) texts

-- the places of the texts that begin with this prefix
abbrev pub rows_with_prefix : List (List ℕ) → List ℕ → List ℕ
rows_with_prefix texts prefix = places (λ text. starts_with nat_eq text prefix) texts

-- the hits at one end
abbrev pub hits_to : List (List ℕ) → List ℕ → ℕ → ℕ → List Hit
hits_to texts key begin end =
    map (λ row. record { end = end; row = row }) (rows_with texts (slice_range key begin end))

-- the rows whose text stands in the key from here on, by end and then by row
unfoldable pub hits_at : List (List ℕ) → List ℕ → ℕ → List Hit
hits_at texts key begin = flat_map (hits_to texts key begin) (range_with_len (begin + 1) (length key - begin))

-- a word row that is found in a key, with its ids and its cost
abbrev pub found_word : DataLists → Hit → FoundWord
found_word d hit =
    let row = word_at d hit.row in
    record { end = hit.end; row = hit.row; lid = row.lid; rid = row.rid; cost = row.cost }

-- a word row with its cost
abbrev pub priced : DataLists → ℕ → PricedRow
priced d row = record { row = row; cost = (word_at d row).cost }

abbrev pub costs_less : PricedRow → PricedRow → Bool
costs_less row other = int_lt row.cost other.cost

-- the first so many of these rows, by cost and then by their order here
abbrev pub cheapest : DataLists → ℕ → List ℕ → List PricedRow
cheapest d most rows = take most (in_order costs_less (map (priced d) rows))

-- the values for a reading, in the order of the rows
unfoldable pub values_of : List ValueRow → List ℕ → List (List ℕ)
values_of rows reading =
    map (λ (row : ValueRow). row.value) (filter (λ row. is_text reading row.reading) rows)

-- the kanji rows with a row for each character
abbrev pub single_kanji : ValueRow → List ValueRow
single_kanji row = map (λ c. record { reading = row.reading; value = c ∷ [] }) row.value

unfoldable pub kanji_rows : List ValueRow → List ValueRow
kanji_rows rows = flat_map single_kanji rows

-- a cost of a word or of a connection
pub record IsCost (cost : ℤ) : Type 0 where
  pub above : LEAST_COST ≤ℤ cost
  pub below : cost ≤ℤ MOST_COST

abbrev pub no_join : JoinRow
no_join = record { first_right = 0; last_right = 0; first_left = 0; last_left = 0 }

-- a join row by its place
unfoldable pub join_at : DataLists → ℕ → JoinRow
join_at d row = slice_index_or d.joins row no_join

-- a join row has two ranges of ids that there are
pub record IsJoinSound (ids : ℕ) (row : JoinRow) : Type 0 where
  pub right : row.first_right ≤ row.last_right
  pub last_right : row.last_right < ids
  pub left : row.first_left ≤ row.last_left
  pub last_left : row.last_left < ids

-- how many rows have this reading
abbrev pub times_in : List WordRow → List ℕ → ℕ
times_in rows reading = count_by (λ row. is_text reading row.reading) rows

-- a text within the bytes of a field
abbrev pub IsShort : List ℕ → Type 0
IsShort text = length (encode_utf8_all text) ≤ MOST_FIELD_BYTES

-- the texts of a rule and of a row of values
pub record IsRuleShort (rule : Rule) : Type 0 where
  pub input : IsShort rule.input
  pub output : IsShort rule.output
  pub pending : IsShort rule.pending

pub record IsValueShort (row : ValueRow) : Type 0 where
  pub reading : IsShort row.reading
  pub value : IsShort row.value

-- the texts of the files but the dictionaries
pub record AreTextsShort (d : DataLists) : Type 0 where
  pub features : All (λ (row : IdRow). IsShort row.feature) d.features
  pub parts : All (λ (row : PosRow). IsShort row.name) d.pos
  pub rules : All IsRuleShort d.rules
  pub symbols : All IsValueShort d.symbols
  pub kanji : All IsValueShort d.kanji

-- a word row has a reading and a value, ids that there are, and a cost
pub record IsWordSound (ids : ℕ) (row : WordRow) : Type 0 where
  pub read : 0 < length row.reading
  pub left : row.lid < ids
  pub right : row.rid < ids
  pub cost : IsCost row.cost
  pub valued : 0 < length row.value
  pub short_reading : IsShort row.reading
  pub short_value : IsShort row.value

-- an id that there is, and a cost
pub record IsNode (ids : ℕ) (node : ℕ × ℤ) : Type 0 where
  pub id : node.0 < ids
  pub cost : IsCost node.1

-- the data are within their limits
pub record AreDataSound (d : DataLists) : Type 0 where
  pub some_ids : 0 < d.ids
  pub few_ids : d.ids ≤ MOST_IDS
  pub few_words : length d.words ≤ MOST_WORDS
  pub connections : (r l : ℕ) → r < d.ids → l < d.ids → IsCost (connection d r l)
  pub classes : (class : Class) → IsNode d.ids (unknown_of d class)
  pub parts : (name : List ℕ) → IfSome (pos_of d name) (IsNode d.ids)
  pub words : (i : ℕ) → i < length d.words → IsWordSound d.ids (word_at d i)
  pub homophones : (reading : List ℕ) → times_in d.words reading ≤ MOST_HOMOPHONES
  pub segments : (i : ℕ) → i < length d.joins → IsJoinSound d.ids (join_at d i)
  pub texts : AreTextsShort d
  pub rules_sound : AreRules d.rules

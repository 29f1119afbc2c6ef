-- The line of an event reads as the event.
use Rattle.std.proofs.Common.{◌≡◌, ℕ, ◌-◌, true, false, ◌==◌, List, [], ◌∷◌, ◌++◌, Some, None, Option, option_map, codes, length, get_or, encode_utf8_all, nat_lt, refl, ap, sym, ◌∙◌, arith, append_assoc, length-append}
use Rattle.std.specs.Fmt.{decimal}
use Rattle.std.specs.List.{All, list_all}
use Rattle.std.specs.Str.{IsUtf8, chars, is_utf8}
use Rattle.std.specs.Str.Lines.{strip_carriage_return}
use Rattle.std.proofs.lemmas.Bool.{cond-true, ne_eqb}
use Rattle.std.proofs.lemmas.Bool.Decides.{nat_tests}
use Rattle.std.proofs.lemmas.List.Elements.{All-append, All-cons}
use Rattle.std.proofs.lemmas.List.Splits.{slice_split_at, slice_split_none}
use Rattle.std.proofs.lemmas.List.Sums.{AllPass-from_list_all}
use Rattle.std.proofs.lemmas.Str.{IsUtf8-append, IsUtf8-from_is_utf8, is_utf8-from_IsUtf8}
use Rattle.mz_base.specs.Lines.{fields_of}
use Rattle.mz_base.specs.Reports.{outcome_text}
use Rattle.mz_base.specs.declared.event.Event.{Event}
use Rattle.mz_base.specs.declared.event.Event.TheVariants as event
use Rattle.mz_base.specs.declared.event.Outcome.{Outcome}
use Rattle.mz_base.specs.declared.event.Outcome.TheVariants.{Published, Refused, Skipped}
use Rattle.mz_base.specs.declared.logs.Names.{Names}
use Rattle.schedule.specs.Events.{WhoIs, both, event_in, event_of, of_client, of_two, outcome_in}
use Rattle.schedule.specs.Names.{IsNamed, IsOneOf, name_of, who_is}
use Rattle.schedule.specs.Readings.{is_end}
use Rattle.schedule.specs.Texts.{event_text}
use Rattle.schedule.specs.Written.{CanBeTold, IsInRange}
use Rattle.schedule.proofs.FieldTexts.{IsFieldText, IsFieldText-word, IsFieldText-decimal, IsFieldText-name, is_field_byte, last-decimal, last-name, number_in-decimal, number_of_name-name_of}
use Rattle.schedule.proofs.SplitLines.{last_of, last_of-append, strip-kept}

abbrev IsNoFeed : ℕ → Type 0
IsNoFeed b = (b == 10) ≡ false

-- what a line is to a reader
pub record IsRow (who : WhoIs) (event : Event) (line : List ℕ) : Type 0 where
  pub one : All (λ b. (b == 10) ≡ false) line
  pub kept : strip_carriage_return line ≡ line
  pub some : (length line == 0) ≡ false
  pub going : is_end line ≡ false
  pub reads : event_of who line ≡ Some event

field-no_tab : (b : ℕ) → is_field_byte b ≡ true → (b == 9) ≡ false
field-no_tab b is = ne_eqb b 9 (λ e. grind (arith, nat_tests))

field-no_feed : (b : ℕ) → is_field_byte b ≡ true → (b == 10) ≡ false
field-no_feed b is = ne_eqb b 10 (λ e. grind (arith, nat_tests))

no_tabs : (text : List ℕ) → IsFieldText text → All (λ b. (b == 9) ≡ false) text
no_tabs text is = λ k d inside. field-no_tab (get_or text k d) (AllPass-from_list_all is_field_byte text is.bytes k d inside)

no_feeds : (text : List ℕ) → IsFieldText text → All (λ b. (b == 10) ≡ false) text
no_feeds text is = λ k d inside. field-no_feed (get_or text k d) (AllPass-from_list_all is_field_byte text is.bytes k d inside)

fields_of-last : (text : List ℕ) → IsFieldText text → fields_of text ≡ text ∷ []
fields_of-last text is = slice_split_none (λ b. b == 9) text (no_tabs text is)

fields_of-first : (text rest : List ℕ) → IsFieldText text → fields_of (text ++ 9 ∷ rest) ≡ text ∷ fields_of rest
fields_of-first text rest is = slice_split_at (λ b. b == 9) text 9 rest (no_tabs text is) refl

tab-text : IsUtf8 (9 ∷ [])
unfolding is_utf8 chars lib.Utf8.encode
tab-text = IsUtf8-from_is_utf8 (9 ∷ []) refl

after_tab : (text : List ℕ) → IsUtf8 text → IsUtf8 (9 ∷ text)
after_tab text is = IsUtf8-append (9 ∷ []) text tab-text is

longer : (front : List ℕ) (y : ℕ) (ys : List ℕ) → (length (front ++ y ∷ ys) == 0) ≡ false
longer front y ys =
    ne_eqb (length (front ++ y ∷ ys)) 0 (λ none. omega (arith, none, length-append front (y ∷ ys)))

read-as : (who : WhoIs) (line : List ℕ) (fields : List (List ℕ)) (event : Event) → IsUtf8 line → fields_of line ≡ fields → event_in who fields ≡ Some event → event_of who line ≡ Some event
read-as who line fields event text cut reads =
    cond-true (is_utf8 line) (event_in who (fields_of line)) None (is_utf8-from_IsUtf8 line text) ∙ ap (event_in who) cut ∙ reads

module _ (who : WhoIs) (event : Event) (word field : List ℕ) (is_word : IsFieldText word) (is_field : IsFieldText field) where
  -- a word and a field
  row-two : (last_of 9 field == 13) ≡ false → is_end (word ++ 9 ∷ field) ≡ false → event_in who (word ∷ field ∷ []) ≡ Some event → IsRow who event (word ++ 9 ∷ field)
  row-two kept going reads =
      record {
        one = All-append IsNoFeed word (9 ∷ field) (no_feeds word is_word) (All-cons IsNoFeed 9 field refl (no_feeds field is_field));
        kept = strip-kept word 9 field kept;
        some = longer word 9 field;
        going = going;
        reads = read-as who (word ++ 9 ∷ field) (word ∷ field ∷ []) event (IsUtf8-append word (9 ∷ field) is_word.utf8 (after_tab field is_field.utf8)) (fields_of-first word field is_word ∙ ap (λ rest. word ∷ rest) (fields_of-last field is_field)) reads;
      }

  module _ (last : List ℕ) (is_last : IsFieldText last) where
    abbrev two : List ℕ
    two = field ++ 9 ∷ last

    -- a word and two fields
    row-three : (last_of 9 last == 13) ≡ false → is_end (word ++ 9 ∷ two) ≡ false → event_in who (word ∷ field ∷ last ∷ []) ≡ Some event → IsRow who event (word ++ 9 ∷ two)
    row-three kept going reads =
        let feeds : All (λ b. (b == 10) ≡ false) two = All-append IsNoFeed field (9 ∷ last) (no_feeds field is_field) (All-cons IsNoFeed 9 last refl (no_feeds last is_last)) in
        let text : IsUtf8 two = IsUtf8-append field (9 ∷ last) is_field.utf8 (after_tab last is_last.utf8) in
        record {
          one = All-append IsNoFeed word (9 ∷ two) (no_feeds word is_word) (All-cons IsNoFeed 9 two refl feeds);
          kept = strip-kept word 9 two (ap (λ b. b == 13) (last_of-append 9 field 9 last) ∙ kept);
          some = longer word 9 two;
          going = going;
          reads = read-as who (word ++ 9 ∷ two) (word ∷ field ∷ last ∷ []) event (IsUtf8-append word (9 ∷ two) is_word.utf8 (after_tab two text)) (fields_of-first word two is_word ∙ ap (λ rest. word ∷ rest) (fields_of-first field last is_field) ∙ ap (λ rest. word ∷ field ∷ rest) (fields_of-last last is_last)) reads;
        }

-- ---- Lines

abbrev client_row : List ℕ → Names → ℕ → List ℕ
client_row word names client = word ++ 9 ∷ encode_utf8_all (name_of names.clients client)

abbrev numbered_row : List ℕ → List ℕ → ℕ → List ℕ
numbered_row word name number = word ++ 9 ∷ (encode_utf8_all name ++ 9 ∷ decimal number)

-- the line of an event, without its end
abbrev pub row : Names → Event → List ℕ
row names (event.Job job outcome) = codes "job" ++ 9 ∷ (decimal job ++ 9 ∷ outcome_text outcome)
row names (event.Dict user reload) = numbered_row (codes "dict") (name_of names.users user) reload
row names (event.Learn client) = client_row (codes "learn") names client
row names (event.Take client job) = numbered_row (codes "take") (name_of names.clients client) job
row names (event.Await client job) = numbered_row (codes "await") (name_of names.clients client) job
row names (event.NotYet client) = client_row (codes "notyet") names client
row names (event.Step client) = client_row (codes "step") names client
row names (event.End client) = client_row (codes "end") names client
row names event.Close = codes "close"

pub event_text-row : (names : Names) (event : Event) → event_text names event ≡ row names event ++ 10 ∷ []
event_text-row names (event.Job job outcome) =
    ap (λ rest. codes "job\t" ++ rest) (sym (append_assoc (decimal job) (9 ∷ outcome_text outcome) (10 ∷ [])))
event_text-row names (event.Dict user reload) =
    ap (λ rest. codes "dict\t" ++ rest) (sym (append_assoc (encode_utf8_all (name_of names.users user)) (9 ∷ decimal reload) (10 ∷ [])))
event_text-row names (event.Learn client) = refl
event_text-row names (event.Take client job) =
    ap (λ rest. codes "take\t" ++ rest) (sym (append_assoc (encode_utf8_all (name_of names.clients client)) (9 ∷ decimal job) (10 ∷ [])))
event_text-row names (event.Await client job) =
    ap (λ rest. codes "await\t" ++ rest) (sym (append_assoc (encode_utf8_all (name_of names.clients client)) (9 ∷ decimal job) (10 ∷ [])))
event_text-row names (event.NotYet client) = refl
event_text-row names (event.Step client) = refl
event_text-row names (event.End client) = refl
event_text-row names event.Close = refl

-- two parts that are there
both-some : {A B : Type 0} (made : A → B → Event) (first : Option A) (second : Option B) (a : A) (b : B) → first ≡ Some a → second ≡ Some b → both made first second ≡ Some (made a b)
both-some made first second a b is_a is_b = rw (is_a, is_b) refl

outcome-word : (outcome : Outcome) → IsFieldText (outcome_text outcome)
outcome-word Published = IsFieldText-word (codes "published") refl refl
outcome-word Refused = IsFieldText-word (codes "refused") refl refl
outcome-word Skipped = IsFieldText-word (codes "skipped") refl refl

outcome-end : (outcome : Outcome) → (last_of 9 (outcome_text outcome) == 13) ≡ false
outcome-end Published = refl
outcome-end Refused = refl
outcome-end Skipped = refl

outcome-read : (outcome : Outcome) → outcome_in (outcome_text outcome) ≡ Some outcome
unfolding outcome_in
outcome-read Published = refl
outcome-read Refused = refl
outcome-read Skipped = refl

module _ (names : Names) (told : CanBeTold names) where
  abbrev who : WhoIs
  who = who_is names

  module _ (client : ℕ) (is : IsOneOf names.clients client) where
    abbrev client_bytes : List ℕ
    client_bytes = encode_utf8_all (name_of names.clients client)

    client-text : IsFieldText client_bytes
    client-text = IsFieldText-name (name_of names.clients client) (told.clients (client - 1) [] (omega (arith, is.first, is.last)))

    client-end : (last_of 9 client_bytes == 13) ≡ false
    client-end = last-name (name_of names.clients client) (told.clients_end (client - 1) [] (omega (arith, is.first, is.last)))

    client-read : who.client client_bytes ≡ Some client
    client-read = number_of_name-name_of names.clients client is told.clients_apart

  module _ (user : ℕ) (is : IsOneOf names.users user) where
    abbrev user_bytes : List ℕ
    user_bytes = encode_utf8_all (name_of names.users user)

    user-text : IsFieldText user_bytes
    user-text = IsFieldText-name (name_of names.users user) (told.users (user - 1) [] (omega (arith, is.first, is.last)))

    user-read : who.user user_bytes ≡ Some user
    user-read = number_of_name-name_of names.users user is told.users_apart

  -- an event's line reads as the event
  pub row-reads : (event : Event) → IsNamed names event → IsInRange event → IsRow who event (row names event)
  unfolding of_client of_two
  row-reads (event.Job job outcome) named small =
      row-three who (event.Job job outcome) (codes "job") (decimal job) (IsFieldText-word (codes "job") refl refl) (IsFieldText-decimal job small) (outcome_text outcome) (outcome-word outcome) (outcome-end outcome) refl (both-some (λ j o. event.Job j o) _ _ job outcome (number_in-decimal job small) (outcome-read outcome))
  row-reads (event.Dict user reload) named small =
      row-three who (event.Dict user reload) (codes "dict") (user_bytes user named) (IsFieldText-word (codes "dict") refl refl) (user-text user named) (decimal reload) (IsFieldText-decimal reload small) (last-decimal reload small) refl (both-some (λ u r. event.Dict u r) _ _ user reload (user-read user named) (number_in-decimal reload small))
  row-reads (event.Learn client) named small =
      row-two who (event.Learn client) (codes "learn") (client_bytes client named) (IsFieldText-word (codes "learn") refl refl) (client-text client named) (client-end client named) refl (ap (option_map (λ c. event.Learn c)) (client-read client named))
  row-reads (event.Take client job) named small =
      row-three who (event.Take client job) (codes "take") (client_bytes client named) (IsFieldText-word (codes "take") refl refl) (client-text client named) (decimal job) (IsFieldText-decimal job small) (last-decimal job small) refl (both-some (λ c k. event.Take c k) _ _ client job (client-read client named) (number_in-decimal job small))
  row-reads (event.Await client job) named small =
      row-three who (event.Await client job) (codes "await") (client_bytes client named) (IsFieldText-word (codes "await") refl refl) (client-text client named) (decimal job) (IsFieldText-decimal job small) (last-decimal job small) refl (both-some (λ c k. event.Await c k) _ _ client job (client-read client named) (number_in-decimal job small))
  row-reads (event.NotYet client) named small =
      row-two who (event.NotYet client) (codes "notyet") (client_bytes client named) (IsFieldText-word (codes "notyet") refl refl) (client-text client named) (client-end client named) refl (ap (option_map (λ c. event.NotYet c)) (client-read client named))
  row-reads (event.Step client) named small =
      row-two who (event.Step client) (codes "step") (client_bytes client named) (IsFieldText-word (codes "step") refl refl) (client-text client named) (client-end client named) refl (ap (option_map (λ c. event.Step c)) (client-read client named))
  row-reads (event.End client) named small =
      row-two who (event.End client) (codes "end") (client_bytes client named) (IsFieldText-word (codes "end") refl refl) (client-text client named) (client-end client named) refl (ap (option_map (λ c. event.End c)) (client-read client named))
  row-reads event.Close named small =
      let is : IsFieldText (codes "close") = IsFieldText-word (codes "close") refl refl in
      record {
        one = no_feeds (codes "close") is;
        kept = refl;
        some = refl;
        going = refl;
        reads = read-as who (codes "close") (codes "close" ∷ []) event.Close is.utf8 (fields_of-last (codes "close") is) refl;
      }

-- a line of a word alone has no line feed
pub word-line : (word : List ℕ) → list_all (λ b. nat_lt b 128) word ≡ true → list_all is_field_byte word ≡ true → All (λ b. (b == 10) ≡ false) word
word-line word is bytes = no_feeds word (IsFieldText-word word is bytes)

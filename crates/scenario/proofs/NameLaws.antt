-- The names of a manifest that reads are distinct, and names and paths have lengths within their limits.
use Rattle.std.proofs.Common.{◌≡◌, ◌≢◌, ℕ, zero, suc, ◌+◌, ◌<◌, ◌≤◌, true, false, not, ◌&&◌, ◌||◌, nat_lt, nat_le, if◌then◌else◌, List, [], ◌∷◌, ◌++◌, map, Option, Some, None, Ok, Err, length, length-append, refl, sym, ◌∙◌, ap, subst, arith, inl, inr}
use Rattle.std.specs.Prelude.{slice_index_or, encode_utf8_all}
use Rattle.std.specs.List.{All, AllByRecursion}
use Rattle.std.specs.Str.{chars, is_utf8, IsUtf8}
use Rattle.std.proofs.lemmas.Bool.{cases_Bool, cases_lt, false≢true}
use Rattle.std.proofs.lemmas.Bool.Decides.{nat_tests}
use Rattle.std.proofs.lemmas.List.{get_or_append_left, map-append}
use Rattle.std.proofs.lemmas.List.Elements.{All-append, All-cons, All-nil}
use Rattle.std.proofs.lemmas.Slice.Eq.{bytes_eq-Decides}
use Rattle.std.proofs.lemmas.Str.{encodes-chars}
use Rattle.std.proofs.Math.Seq.{get_or-append_seam}
use Rattle.mz_base.specs.Data.{is_text}
use Rattle.mz_base.specs.Lines.{fields_of, is_skipped}
use Rattle.mz_base.specs.declared.fault.Role.{Role}
use Rattle.mz_base.proofs.TextFields.{fields-utf8}
use Rattle.scenario.specs.Entries.{name_of, file_of, file_from, dict_of, client_of, loaders_of, has_client, may_have}
use Rattle.scenario.specs.Names.{is_among, is_name, is_path, new_name, number_among, role_of}
use Rattle.scenario.specs.Sound.{AreDistinct, IsName, IsNamed, IsPath, IsWithin}
use Rattle.scenario.specs.Manifests.{Told, nothing_told, or_bad, with_set, with_file, with_user, with_dict, with_client, with_loaders, with_certificates, with_word, with_fields, with_line, manifest_from, have_romaji, finished, manifest_after}
use Rattle.scenario.specs.declared.manifest.ClientLine.{ClientLine}
use Rattle.scenario.specs.declared.manifest.DictLine.{DictLine}
use Rattle.scenario.specs.declared.manifest.FileLine.{FileLine}
use Rattle.scenario.specs.declared.manifest.Manifest.{Manifest}
use Rattle.scenario.specs.declared.manifest.ManifestError.TheVariants.{Bad}
use Rattle.scenario.specs.declared.names.TheConstants.{MOST_NAME_BYTES, MOST_PATH_BYTES}
use Rattle.scenario.proofs.AnswerSteps.{after-Ok, or_bad-Ok, if-Ok, if-Some, if-made, option_map-Some}

-- the bytes of a field's characters are the field
within-field : (most : ℕ) (field : List ℕ) → IsUtf8 field → (nat_le 1 (length field) && nat_le (length field) most) ≡ true → IsWithin most (chars field)
within-field most field text is =
    let same : encode_utf8_all (chars field) ≡ field = encodes-chars field text in
    let some : 1 ≤ length field = grind (arith, nat_tests, is) in
    let few : length field ≤ most = grind (arith, nat_tests, is) in
    record {
      some = subst (λ bytes. 1 ≤ length bytes) (sym same) some;
      few = subst (λ bytes. length bytes ≤ most) (sym same) few;
    }

-- none of the texts is this one
among-apart : (texts : List (List ℕ)) (text : List ℕ) (place : ℕ) → is_among texts text ≡ false → place < length texts → slice_index_or texts place [] ≢ text
among-apart [] text place none inside = λ is. absurd (omega arith)
among-apart (first ∷ texts) text zero none inside = λ is.
    elim (cases_Bool (is_text text first)) [
      | inl here ↦ let never : true ≡ false = rw here at none in absurd cc
      | inr not_here ↦ absurd (false≢true (sym not_here ∙ (bytes_eq-Decides first text).1 is))
    ]
among-apart (first ∷ texts) text (suc place) none inside =
    elim (cases_Bool (is_text text first)) [
      | inl here ↦ let never : true ≡ false = rw here at none in absurd cc
      | inr not_here ↦ among-apart texts text place (rw not_here at none) (omega arith)
    ]

-- the last of the texts
at-end : (names : List (List ℕ)) (name : List ℕ) (place : ℕ) → place < length (names ++ name ∷ []) → length names ≤ place → slice_index_or (names ++ name ∷ []) place [] ≡ name
at-end names name place inside past =
    let last : place ≡ length names = omega (arith, length-append names (name ∷ [])) in
    ap (λ at. slice_index_or (names ++ name ∷ []) at []) last ∙ get_or-append_seam names name [] []

-- distinct names with a new one
distinct-more : (names : List (List ℕ)) (name : List ℕ) → AreDistinct names → is_among names name ≡ false → AreDistinct (names ++ name ∷ [])
distinct-more names name apart none i j below_i below_j is =
    let long : length (names ++ name ∷ []) ≡ length names + 1 = length-append names (name ∷ []) in
    elim (cases_lt i (length names)) [
      | inl within_i ↦ elim (cases_lt j (length names)) [
        | inl within_j ↦ apart i j within_i within_j (sym (get_or_append_left names (name ∷ []) [] i within_i) ∙ is ∙ get_or_append_left names (name ∷ []) [] j within_j)
        | inr past_j ↦ absurd (among-apart names name i none within_i (sym (get_or_append_left names (name ∷ []) [] i within_i) ∙ is ∙ at-end names name j below_j past_j))
      ]
      | inr past_i ↦ elim (cases_lt j (length names)) [
        | inl within_j ↦ absurd (among-apart names name j none within_j (sym (get_or_append_left names (name ∷ []) [] j within_j) ∙ sym is ∙ at-end names name i below_i past_i))
        | inr past_j ↦ omega (arith, long)
      ]
    ]

-- one element more has it
one_more : {A : Type 0} (P : A → Type 0) (xs : List A) (x : A) → All P xs → P x → All P (xs ++ x ∷ [])
one_more P xs x all here = All-append P xs (x ∷ []) all (All-cons P x [] here (All-nil P))

-- the fields of a line are texts
abbrev AreTexts : List (List ℕ) → Type 0
AreTexts fields = AllByRecursion IsUtf8 fields

-- a new name
pub record IsNew (names : List (List ℕ)) (name : List ℕ) : Type 0 where
  pub named : IsName name
  pub apart : is_among names name ≡ false

new_name-IsNew : (names : List (List ℕ)) (field name : List ℕ) → IsUtf8 field → new_name names field ≡ Some name → IsNew names name
new_name-IsNew names field name text is =
    let tested = if-Some (is_name field && not (is_among names (chars field))) (Some (chars field)) name is in
    let made : Some (chars field) ≡ Some name = tested.1 in
    let same : chars field ≡ name = cc in
    let short : is_name field ≡ true = grind (arith, nat_tests, tested.0) in
    let apart : is_among names (chars field) ≡ false = grind (arith, nat_tests, tested.0) in
    subst (IsNew names) same (record { named = within-field MOST_NAME_BYTES field text short; apart = apart })

name_of-IsNew : (names fields : List (List ℕ)) (name : List ℕ) → AreTexts fields → name_of names fields ≡ Some name → IsNew names name
name_of-IsNew names [] name texts is = absurd cc
name_of-IsNew names (field ∷ []) name texts is = new_name-IsNew names field name texts.0 is
name_of-IsNew names (field ∷ more ∷ fields) name texts is = absurd cc

-- what the lines have told has names within their limits
abbrev pub IsKept : Told → Type 0
IsKept told = IsNamed (manifest_from told)

set-IsKept : (number : ℕ) (told more : Told) (fields : List (List ℕ)) → AreTexts fields → with_set number told fields ≡ Ok more → IsKept told → IsKept more
unfolding with_set
set-IsKept number told more fields texts is kept =
    let said = after-Ok (or_bad number (name_of told.sets fields)) _ more is in
    let room = if-Ok _ _ _ _ said.2 in
    let new = name_of-IsNew told.sets fields said.0 texts (or_bad-Ok number (name_of told.sets fields) said.0 said.1) in
    subst IsKept room.1 (record {
      sets = one_more IsName told.sets said.0 kept.sets new.named;
      sets_apart = distinct-more told.sets said.0 kept.sets_apart new.apart;
      users = kept.users;
      users_apart = kept.users_apart;
      clients = kept.clients;
      clients_apart = kept.clients_apart;
      files = kept.files;
      dicts = kept.dicts;
      scripts = kept.scripts;
    })

user-IsKept : (number : ℕ) (told more : Told) (fields : List (List ℕ)) → AreTexts fields → with_user number told fields ≡ Ok more → IsKept told → IsKept more
unfolding with_user
user-IsKept number told more fields texts is kept =
    let said = after-Ok (or_bad number (name_of told.users fields)) _ more is in
    let room = if-Ok _ _ _ _ said.2 in
    let new = name_of-IsNew told.users fields said.0 texts (or_bad-Ok number (name_of told.users fields) said.0 said.1) in
    subst IsKept room.1 (record {
      sets = kept.sets;
      sets_apart = kept.sets_apart;
      users = one_more IsName told.users said.0 kept.users new.named;
      users_apart = distinct-more told.users said.0 kept.users_apart new.apart;
      clients = kept.clients;
      clients_apart = kept.clients_apart;
      files = kept.files;
      dicts = kept.dicts;
      scripts = kept.scripts;
    })

-- a file's path
file_from-IsPath : (files : List FileLine) (set : Option ℕ) (role : Option Role) (path : List ℕ) (file : FileLine) → IsUtf8 path → file_from files set role path ≡ Some file → IsPath file.path
file_from-IsPath files None role path file text is = absurd cc
file_from-IsPath files (Some set) None path file text is = absurd cc
file_from-IsPath files (Some set) (Some role) path file text is =
    let tested = if-Some (may_have files set role && is_path path) (Some (record { set = set; role = role; path = chars path })) file is in
    let made : Some (record { set = set; role = role; path = chars path }) ≡ Some file = tested.1 in
    let same : (record { set = set; role = role; path = chars path }) ≡ file = cc in
    let short : is_path path ≡ true = grind (arith, nat_tests, tested.0) in
    subst (λ (file : FileLine). IsPath file.path) same (within-field MOST_PATH_BYTES path text short)

file_of-IsPath : (sets : List (List ℕ)) (files : List FileLine) (fields : List (List ℕ)) (file : FileLine) → AreTexts fields → file_of sets files fields ≡ Some file → IsPath file.path
file_of-IsPath sets files [] file texts is = absurd cc
file_of-IsPath sets files (set ∷ []) file texts is = absurd cc
file_of-IsPath sets files (set ∷ role ∷ []) file texts is = absurd cc
file_of-IsPath sets files (set ∷ role ∷ path ∷ []) file texts is =
    file_from-IsPath files (number_among sets set) (role_of role) path file texts.1.1.0 is
file_of-IsPath sets files (set ∷ role ∷ path ∷ more ∷ fields) file texts is = absurd cc

file-IsKept : (number : ℕ) (told more : Told) (fields : List (List ℕ)) → AreTexts fields → with_file number told fields ≡ Ok more → IsKept told → IsKept more
unfolding with_file
file-IsKept number told more fields texts is kept =
    let said = after-Ok (or_bad number (file_of told.sets told.files fields)) _ more is in
    let path = file_of-IsPath told.sets told.files fields said.0 texts (or_bad-Ok number (file_of told.sets told.files fields) said.0 said.1) in
    let made : Ok (record told { files = told.files ++ said.0 ∷ [] }) ≡ Ok more = said.2 in
    let same : (record told { files = told.files ++ said.0 ∷ [] }) ≡ more = cc in
    subst IsKept same (record {
      sets = kept.sets;
      sets_apart = kept.sets_apart;
      users = kept.users;
      users_apart = kept.users_apart;
      clients = kept.clients;
      clients_apart = kept.clients_apart;
      files = one_more (λ (file : FileLine). IsPath file.path) told.files said.0 kept.files path;
      dicts = kept.dicts;
      scripts = kept.scripts;
    })

-- a dictionary's path
dict_of-IsPath : (users fields : List (List ℕ)) (dict : DictLine) → AreTexts fields → dict_of users fields ≡ Some dict → IsPath dict.path
dict_of-IsPath users [] dict texts is = absurd cc
dict_of-IsPath users (user ∷ []) dict texts is = absurd cc
dict_of-IsPath users (user ∷ path ∷ []) dict texts is =
    let tested = if-Some (is_path path) _ dict is in
    let mapped = option_map-Some _ (number_among users user) dict tested.1 in
    subst (λ (made : DictLine). IsPath made.path) mapped.2 (within-field MOST_PATH_BYTES path texts.1.0 tested.0)
dict_of-IsPath users (user ∷ path ∷ more ∷ fields) dict texts is = absurd cc

dict-IsKept : (number : ℕ) (told more : Told) (fields : List (List ℕ)) → AreTexts fields → with_dict number told fields ≡ Ok more → IsKept told → IsKept more
unfolding with_dict
dict-IsKept number told more fields texts is kept =
    let said = after-Ok (or_bad number (dict_of told.users fields)) _ more is in
    let room = if-Ok _ _ _ _ said.2 in
    let path = dict_of-IsPath told.users fields said.0 texts (or_bad-Ok number (dict_of told.users fields) said.0 said.1) in
    subst IsKept room.1 (record {
      sets = kept.sets;
      sets_apart = kept.sets_apart;
      users = kept.users;
      users_apart = kept.users_apart;
      clients = kept.clients;
      clients_apart = kept.clients_apart;
      files = kept.files;
      dicts = one_more (λ (dict : DictLine). IsPath dict.path) told.dicts said.0 kept.dicts path;
      scripts = kept.scripts;
    })

-- the names of clients
abbrev names_of : List ClientLine → List (List ℕ)
names_of clients = map (λ (client : ClientLine). client.name) clients

has_client-among : (clients : List ClientLine) (name : List ℕ) → has_client clients name ≡ is_among (names_of clients) name
has_client-among [] name = refl
has_client-among (client ∷ clients) name = ap (λ rest. is_text name client.name || rest) (has_client-among clients name)

-- a client's name and script
pub record IsClientFor (clients : List ClientLine) (client : ClientLine) : Type 0 where
  pub new : IsNew (names_of clients) client.name
  pub script : IsPath client.script

client_of-IsClientFor : (users : List (List ℕ)) (clients : List ClientLine) (fields : List (List ℕ)) (client : ClientLine) → AreTexts fields → client_of users clients fields ≡ Some client → IsClientFor clients client
client_of-IsClientFor users clients [] client texts is = absurd cc
client_of-IsClientFor users clients (name ∷ []) client texts is = absurd cc
client_of-IsClientFor users clients (name ∷ user ∷ []) client texts is = absurd cc
client_of-IsClientFor users clients (name ∷ user ∷ script ∷ []) client texts is =
    let tested = if-Some (is_name name && (not (has_client clients (chars name)) && is_path script)) _ client is in
    let mapped = option_map-Some _ (number_among users user) client tested.1 in
    let named : is_name name ≡ true = grind (arith, nat_tests, tested.0) in
    let free : has_client clients (chars name) ≡ false = grind (arith, nat_tests, tested.0) in
    let short : is_path script ≡ true = grind (arith, nat_tests, tested.0) in
    subst (IsClientFor clients) mapped.2 (record {
      new = record { named = within-field MOST_NAME_BYTES name texts.0 named; apart = sym (has_client-among clients (chars name)) ∙ free };
      script = within-field MOST_PATH_BYTES script texts.1.1.0 short;
    })
client_of-IsClientFor users clients (name ∷ user ∷ script ∷ more ∷ fields) client texts is = absurd cc

clients_apart-more : (clients : List ClientLine) (client : ClientLine) → AreDistinct (names_of clients) → is_among (names_of clients) client.name ≡ false → AreDistinct (names_of (clients ++ client ∷ []))
clients_apart-more clients client apart none =
    subst AreDistinct (sym (map-append (λ (client : ClientLine). client.name) clients (client ∷ []))) (distinct-more (names_of clients) client.name apart none)

client-IsKept : (number : ℕ) (told more : Told) (fields : List (List ℕ)) → AreTexts fields → with_client number told fields ≡ Ok more → IsKept told → IsKept more
unfolding with_client
client-IsKept number told more fields texts is kept =
    let said = after-Ok (or_bad number (client_of told.users told.clients fields)) _ more is in
    let room = if-Ok _ _ _ _ said.2 in
    let for = client_of-IsClientFor told.users told.clients fields said.0 texts (or_bad-Ok number (client_of told.users told.clients fields) said.0 said.1) in
    subst IsKept room.1 (record {
      sets = kept.sets;
      sets_apart = kept.sets_apart;
      users = kept.users;
      users_apart = kept.users_apart;
      clients = one_more (λ (client : ClientLine). IsName client.name) told.clients said.0 kept.clients for.new.named;
      clients_apart = clients_apart-more told.clients said.0 kept.clients_apart for.new.apart;
      files = kept.files;
      dicts = kept.dicts;
      scripts = one_more (λ (client : ClientLine). IsPath client.script) told.clients said.0 kept.scripts for.script;
    })

-- the number of loaders, and certificates, name nothing
loaders-IsKept : (number : ℕ) (told more : Told) (fields : List (List ℕ)) → with_loaders number told fields ≡ Ok more → IsKept told → IsKept more
unfolding with_loaders
loaders-IsKept number told more fields is kept =
    let said = after-Ok (or_bad number (loaders_of told.loaders fields)) _ more is in
    let made : Ok (record told { loaders = Some said.0 }) ≡ Ok more = said.2 in
    let same : (record told { loaders = Some said.0 }) ≡ more = cc in
    subst IsKept same (record {
      sets = kept.sets;
      sets_apart = kept.sets_apart;
      users = kept.users;
      users_apart = kept.users_apart;
      clients = kept.clients;
      clients_apart = kept.clients_apart;
      files = kept.files;
      dicts = kept.dicts;
      scripts = kept.scripts;
    })

certificates-IsKept : (number : ℕ) (told more : Told) (fields : List (List ℕ)) → with_certificates number told fields ≡ Ok more → IsKept told → IsKept more
unfolding with_certificates
certificates-IsKept number told more fields is kept =
    let tested = if-Ok _ _ _ _ is in
    subst IsKept tested.1 (record {
      sets = kept.sets;
      sets_apart = kept.sets_apart;
      users = kept.users;
      users_apart = kept.users_apart;
      clients = kept.clients;
      clients_apart = kept.clients_apart;
      files = kept.files;
      dicts = kept.dicts;
      scripts = kept.scripts;
    })

word-IsKept : (number : ℕ) (told more : Told) (word : List ℕ) (fields : List (List ℕ)) → AreTexts fields → with_word number told word fields ≡ Ok more → IsKept told → IsKept more
unfolding with_word
word-IsKept number told more word fields texts is kept =
    if-made IsKept _ _ _ (λ made this. set-IsKept number told made fields texts this kept) (
    if-made IsKept _ _ _ (λ made this. file-IsKept number told made fields texts this kept) (
    if-made IsKept _ _ _ (λ made this. user-IsKept number told made fields texts this kept) (
    if-made IsKept _ _ _ (λ made this. dict-IsKept number told made fields texts this kept) (
    if-made IsKept _ _ _ (λ made this. client-IsKept number told made fields texts this kept) (
    if-made IsKept _ _ _ (λ made this. loaders-IsKept number told made fields this kept) (
    if-made IsKept _ (with_certificates number told fields) (Err (Bad number)) (λ made this. certificates-IsKept number told made fields this kept) (λ made this. absurd cc)
    )
    )
    )
    )
    )
    ) more is

fields-IsKept : (number : ℕ) (told more : Told) (fields : List (List ℕ)) → AreTexts fields → with_fields number told fields ≡ Ok more → IsKept told → IsKept more
fields-IsKept number told more [] texts is kept = absurd cc
fields-IsKept number told more (word ∷ fields) texts is kept = word-IsKept number told more word fields texts.1 is kept

line-IsKept : (number : ℕ) (told more : Told) (line : List ℕ) → with_line number told line ≡ Ok more → IsKept told → IsKept more
unfolding with_line
line-IsKept number told more line is kept =
    elim (cases_Bool (is_utf8 line)) [
      | inl text ↦
          let read : (if is_skipped line then Ok told else with_fields number told (fields_of line)) ≡ Ok more = rw text at is in
          if-made IsKept (is_skipped line) (Ok told) (with_fields number told (fields_of line)) (λ made this. let same : told ≡ made = cc in subst IsKept same kept) (λ made this. fields-IsKept number told made (fields_of line) (fields-utf8 line text) this kept) more read
      | inr bytes ↦ let never : Err (Bad number) ≡ Ok more = rw bytes at is in absurd cc
    ]

-- what was told is a manifest
finished-IsNamed : (number : ℕ) (told : Told) (manifest : Manifest) → finished number told ≡ Ok manifest → IsKept told → IsNamed manifest
finished-IsNamed number told manifest is kept =
    let whole = if-Ok (nat_lt 0 (length told.sets) && have_romaji told) (manifest_from told) manifest (Bad number) is in
    subst IsNamed whole.1 kept

-- line by line
pub manifest_after-IsNamed : (told : Told) (number : ℕ) (lines : List (List ℕ)) (manifest : Manifest) → manifest_after told number lines ≡ Ok manifest → IsKept told → IsNamed manifest
manifest_after-IsNamed told number [] manifest is kept = finished-IsNamed number told manifest is kept
manifest_after-IsNamed told number (line ∷ lines) manifest is kept =
    let read = after-Ok (with_line number told line) (λ more. manifest_after more (number + 1) lines) manifest is in
    manifest_after-IsNamed read.0 (number + 1) lines manifest read.2 (line-IsKept number told read.0 line read.1 kept)

no_names : AreDistinct []
no_names i j below_i below_j is = absurd (omega arith)

-- nothing told names nothing
pub nothing_told-IsNamed : IsKept nothing_told
nothing_told-IsNamed = record {
  sets = All-nil IsName;
  sets_apart = no_names;
  users = All-nil IsName;
  users_apart = no_names;
  clients = All-nil (λ (client : ClientLine). IsName client.name);
  clients_apart = no_names;
  files = All-nil (λ (file : FileLine). IsPath file.path);
  dicts = All-nil (λ (dict : DictLine). IsPath dict.path);
  scripts = All-nil (λ (client : ClientLine). IsPath client.script);
}

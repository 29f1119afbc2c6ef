-- A manifest that reads is within its limits, and names only sets and users that it has.
use Rattle.std.proofs.Common.{◌≡◌, ◌≢◌, ℕ, zero, suc, ◌+◌, ◌<◌, ◌≤◌, Bool, true, false, not, ◌&&◌, eqb, nat_lt, nat_le, List, [], ◌∷◌, ◌++◌, Option, Some, None, Ok, Err, length, length-append, append-nil, refl, sym, subst, arith, rules, inl, inr}
use Rattle.std.specs.List.{All, filter, list_any, list_all, position, position_or_len, range_with_len}
use Rattle.std.specs.Str.{chars}
use Rattle.std.proofs.lemmas.Bool.{cases_Bool}
use Rattle.std.proofs.lemmas.Bool.Decides.{nat_tests}
use Rattle.std.proofs.lemmas.List.Elements.{All-append, All-cons, All-nil, filter-append}
use Rattle.mz_base.specs.Data.{is_text}
use Rattle.mz_base.specs.Faults.{same_role}
use Rattle.mz_base.specs.Lines.{fields_of, is_skipped}
use Rattle.mz_base.specs.Numbers.{number_of}
use denote.Enum.Bare.{same_true}
use Rattle.mz_base.specs.contracts.fault.Role.{the_type}
use Rattle.mz_base.specs.declared.fault.Role.{Role}
use Rattle.mz_base.specs.declared.fault.Role.TheVariants.{Dictionary, Romaji}
use Rattle.scenario.specs.Entries.{name_of, file_of, file_from, dict_of, client_of, loaders_of, few_loaders, is_file, has_file, may_have, has_client}
use Rattle.scenario.specs.Names.{is_name, is_path, number_among, role_of}
use Rattle.scenario.specs.Manifests.{Told, nothing_told, or_bad, dicts_of, with_set, with_file, with_user, with_dict, with_client, with_loaders, with_certificates, with_word, with_fields, with_line, manifest_from, have_romaji, finished, manifest_after}
use Rattle.scenario.specs.Sound.{IsOneOf, IsNamed, IsWithinLimits, IsSound}
use Rattle.scenario.specs.declared.manifest.ClientLine.{ClientLine}
use Rattle.scenario.specs.declared.manifest.DictLine.{DictLine}
use Rattle.scenario.specs.declared.manifest.FileLine.{FileLine}
use Rattle.scenario.specs.declared.manifest.Manifest.{Manifest}
use Rattle.scenario.specs.declared.manifest.ManifestError.TheVariants.{Bad}
use Rattle.scenario.specs.declared.manifest.TheConstants.{MOST_SETS, MOST_USERS, MOST_CLIENTS, MOST_DICTIONARIES, MOST_LOADERS}
use Rattle.scenario.proofs.AnswerSteps.{after-Ok, or_bad-Ok, if-Ok, if-Some, if-made, option_map-Some}

-- what the lines have told keeps the limits
abbrev pub IsKept : Told → Type 0
IsKept told = IsWithinLimits (manifest_from told)

-- the number of a name is one of theirs
number_among-IsOneOf : (names : List (List ℕ)) (name : List ℕ) (number : ℕ) → number_among names name ≡ Some number → IsOneOf (length names) number
number_among-IsOneOf names name number is =
    let place = position_or_len (is_text (chars name)) names in
    let mapped = option_map-Some (λ place. place + 1) (position (is_text (chars name)) names) number is in
    let found = if-Some (nat_lt place (length names)) (Some place) mapped.0 mapped.1 in
    let is_place : Some place ≡ Some mapped.0 = found.1 in
    let same : place ≡ mapped.0 = cc in
    let below : place < length names = grind (arith, nat_tests, found.0) in
    record { first = omega (arith, mapped.2); last = omega (arith, mapped.2, same, below) }

-- a number is one of more
IsOneOf-more : {A : Type 0} (names : List A) (name : A) (number : ℕ) → IsOneOf (length names) number → IsOneOf (length (names ++ name ∷ [])) number
IsOneOf-more names name number is =
    record { first = is.first; last = omega (arith, is.last, length-append names (name ∷ [])) }

-- one element more has it
All-one_more : {A : Type 0} (P : A → Type 0) (xs : List A) (x : A) → All P xs → P x → All P (xs ++ x ∷ [])
All-one_more P xs x all here = All-append P xs (x ∷ []) all (All-cons P x [] here (All-nil P))

-- there is room for one more
one_more : {A : Type 0} (most : ℕ) (xs : List A) (x : A) → nat_lt (length xs) most ≡ true → length (xs ++ x ∷ []) ≤ most
one_more most xs x room =
    let below : length xs < most = grind (arith, nat_tests, room) in
    omega (arith, length-append xs (x ∷ []), below)

set-IsKept : (number : ℕ) (told more : Told) (fields : List (List ℕ)) → with_set number told fields ≡ Ok more → IsKept told → IsKept more
unfolding with_set
set-IsKept number told more fields is kept =
    let said = after-Ok (or_bad number (name_of told.sets fields)) _ more is in
    let room = if-Ok _ _ _ _ said.2 in
    subst IsKept room.1 (record {
      few_sets = one_more MOST_SETS told.sets said.0 room.0;
      few_users = kept.few_users;
      few_clients = kept.few_clients;
      few_dicts = kept.few_dicts;
      loaders = kept.loaders;
      files = λ k d inside. IsOneOf-more told.sets said.0 _ (kept.files k d inside);
      dicts = kept.dicts;
      clients = kept.clients;
      single = kept.single;
    })

user-IsKept : (number : ℕ) (told more : Told) (fields : List (List ℕ)) → with_user number told fields ≡ Ok more → IsKept told → IsKept more
unfolding with_user
user-IsKept number told more fields is kept =
    let said = after-Ok (or_bad number (name_of told.users fields)) _ more is in
    let room = if-Ok _ _ _ _ said.2 in
    subst IsKept room.1 (record {
      few_sets = kept.few_sets;
      few_users = one_more MOST_USERS told.users said.0 room.0;
      few_clients = kept.few_clients;
      few_dicts = kept.few_dicts;
      loaders = kept.loaders;
      files = kept.files;
      dicts = λ k d inside. IsOneOf-more told.users said.0 _ (kept.dicts k d inside);
      clients = λ k d inside. IsOneOf-more told.users said.0 _ (kept.clients k d inside);
      single = kept.single;
    })

-- a dictionary's user
dict_of-IsOneOf : (users fields : List (List ℕ)) (dict : DictLine) → dict_of users fields ≡ Some dict → IsOneOf (length users) dict.user
dict_of-IsOneOf users [] dict is = absurd cc
dict_of-IsOneOf users (user ∷ []) dict is = absurd cc
dict_of-IsOneOf users (user ∷ path ∷ []) dict is =
    let tested = if-Some (is_path path) _ dict is in
    let mapped = option_map-Some _ (number_among users user) dict tested.1 in
    subst (λ (made : DictLine). IsOneOf (length users) made.user) mapped.2 (number_among-IsOneOf users user mapped.0 mapped.1)
dict_of-IsOneOf users (user ∷ path ∷ more ∷ fields) dict is = absurd cc

-- the dictionaries of a user, with one more
few_dicts-more : (user : ℕ) (dicts : List DictLine) (dict : DictLine) → length (dicts_of user dicts) ≤ MOST_DICTIONARIES → nat_lt (length (dicts_of dict.user dicts)) MOST_DICTIONARIES ≡ true → length (dicts_of user (dicts ++ dict ∷ [])) ≤ MOST_DICTIONARIES
few_dicts-more user dicts dict few room =
    rw filter-append (elim (cases_Bool (eqb dict.user user)) [
      | inl own ↦
          let same : dict.user ≡ user = grind (arith, nat_tests, own) in
          let at_own : length (dicts_of dict.user dicts) < MOST_DICTIONARIES = grind (arith, nat_tests, room) in
          let below = subst (λ (at : ℕ). length (dicts_of at dicts) < MOST_DICTIONARIES) same at_own in
          rw own (omega (arith, length-append (dicts_of user dicts) (dict ∷ []), below))
      | inr other ↦ rw (other, append-nil) few
    ])

dict-IsKept : (number : ℕ) (told more : Told) (fields : List (List ℕ)) → with_dict number told fields ≡ Ok more → IsKept told → IsKept more
unfolding with_dict
dict-IsKept number told more fields is kept =
    let said = after-Ok (or_bad number (dict_of told.users fields)) _ more is in
    let room = if-Ok _ _ _ _ said.2 in
    let named = or_bad-Ok number (dict_of told.users fields) said.0 said.1 in
    subst IsKept room.1 (record {
      few_sets = kept.few_sets;
      few_users = kept.few_users;
      few_clients = kept.few_clients;
      few_dicts = λ user. few_dicts-more user told.dicts said.0 (kept.few_dicts user) room.0;
      loaders = kept.loaders;
      files = kept.files;
      dicts = All-one_more (λ (dict : DictLine). IsOneOf (length told.users) dict.user) told.dicts said.0 kept.dicts (dict_of-IsOneOf told.users fields said.0 named);
      clients = kept.clients;
      single = kept.single;
    })

-- a client's user
client_of-IsOneOf : (users : List (List ℕ)) (clients : List ClientLine) (fields : List (List ℕ)) (client : ClientLine) → client_of users clients fields ≡ Some client → IsOneOf (length users) client.user
client_of-IsOneOf users clients [] client is = absurd cc
client_of-IsOneOf users clients (name ∷ []) client is = absurd cc
client_of-IsOneOf users clients (name ∷ user ∷ []) client is = absurd cc
client_of-IsOneOf users clients (name ∷ user ∷ script ∷ []) client is =
    let tested = if-Some (is_name name && (not (has_client clients (chars name)) && is_path script)) _ client is in
    let mapped = option_map-Some _ (number_among users user) client tested.1 in
    subst (λ (made : ClientLine). IsOneOf (length users) made.user) mapped.2 (number_among-IsOneOf users user mapped.0 mapped.1)
client_of-IsOneOf users clients (name ∷ user ∷ script ∷ more ∷ fields) client is = absurd cc

client-IsKept : (number : ℕ) (told more : Told) (fields : List (List ℕ)) → with_client number told fields ≡ Ok more → IsKept told → IsKept more
unfolding with_client
client-IsKept number told more fields is kept =
    let said = after-Ok (or_bad number (client_of told.users told.clients fields)) _ more is in
    let room = if-Ok _ _ _ _ said.2 in
    let named = or_bad-Ok number (client_of told.users told.clients fields) said.0 said.1 in
    subst IsKept room.1 (record {
      few_sets = kept.few_sets;
      few_users = kept.few_users;
      few_clients = one_more MOST_CLIENTS told.clients said.0 room.0;
      few_dicts = kept.few_dicts;
      loaders = kept.loaders;
      files = kept.files;
      dicts = kept.dicts;
      clients = All-one_more (λ (client : ClientLine). IsOneOf (length told.users) client.user) told.clients said.0 kept.clients (client_of-IsOneOf told.users told.clients fields said.0 named);
      single = kept.single;
    })

-- a file's set is there, and may have it
pub record IsFileFor (sets : List (List ℕ)) (files : List FileLine) (file : FileLine) : Type 0 where
  pub owned : IsOneOf (length sets) file.set
  pub may : may_have files file.set file.role ≡ true

file_from-IsFileFor : (sets : List (List ℕ)) (files : List FileLine) (set : Option ℕ) (role : Option Role) (path : List ℕ) (file : FileLine) → ((number : ℕ) → set ≡ Some number → IsOneOf (length sets) number) → file_from files set role path ≡ Some file → IsFileFor sets files file
file_from-IsFileFor sets files None role path file owned is = absurd cc
file_from-IsFileFor sets files (Some set) None path file owned is = absurd cc
file_from-IsFileFor sets files (Some set) (Some role) path file owned is =
    let tested = if-Some (may_have files set role && is_path path) (Some (record { set = set; role = role; path = chars path })) file is in
    let made : Some (record { set = set; role = role; path = chars path }) ≡ Some file = tested.1 in
    let same : (record { set = set; role = role; path = chars path }) ≡ file = cc in
    subst (IsFileFor sets files) same (record { owned = owned set refl; may = grind (arith, nat_tests, tested.0) })

file_of-IsFileFor : (sets : List (List ℕ)) (files : List FileLine) (fields : List (List ℕ)) (file : FileLine) → file_of sets files fields ≡ Some file → IsFileFor sets files file
file_of-IsFileFor sets files [] file is = absurd cc
file_of-IsFileFor sets files (set ∷ []) file is = absurd cc
file_of-IsFileFor sets files (set ∷ role ∷ []) file is = absurd cc
file_of-IsFileFor sets files (set ∷ role ∷ path ∷ []) file is =
    file_from-IsFileFor sets files (number_among sets set) (role_of role) path file (number_among-IsOneOf sets set) is
file_of-IsFileFor sets files (set ∷ role ∷ path ∷ more ∷ fields) file is = absurd cc

same_role-is : (role other : Role) → same_role role other ≡ true → role ≡ other
unfolding same_role
same_role-is role other is = same_true the_type (search rules) role other is

-- where none passes, none is kept
filter-none : {A : Type 0} (passes : A → Bool) (xs : List A) → list_any passes xs ≡ false → filter passes xs ≡ []
filter-none passes [] none = refl
filter-none passes (x ∷ xs) none =
    elim (cases_Bool (passes x)) [
      | inl here ↦ let never : true ≡ false = rw here at none in absurd cc
      | inr not_here ↦ rw not_here (filter-none passes xs (rw not_here at none))
    ]

-- the files of a set and role, with one more
single-more : (files : List FileLine) (file : FileLine) (set : ℕ) (role : Role) → role ≢ Dictionary → may_have files file.set file.role ≡ true → length (filter (is_file set role) files) ≤ 1 → length (filter (is_file set role) (files ++ file ∷ [])) ≤ 1
single-more files file set role other may single =
    rw filter-append (elim (cases_Bool (is_file set role file)) [
      | inl own ↦
          let same_set : file.set ≡ set = grind (arith, nat_tests, own) in
          let role_too : same_role file.role role ≡ true = grind (arith, nat_tests, own) in
          let may_here : may_have files set role ≡ true =
          subst (λ (r : Role). may_have files set r ≡ true) (same_role-is file.role role role_too) (subst (λ (at : ℕ). may_have files at file.role ≡ true) same_set may) in
          let free : has_file files set role ≡ false =
          elim (cases_Bool (same_role role Dictionary)) [
            | inl many ↦ absurd (other (same_role-is role Dictionary many))
            | inr one ↦ grind (arith, nat_tests, one, may_here)
          ] in
          rw (filter-none (is_file set role) files free, own) (omega arith)
      | inr another ↦ rw (another, append-nil) single
    ])

file-IsKept : (number : ℕ) (told more : Told) (fields : List (List ℕ)) → with_file number told fields ≡ Ok more → IsKept told → IsKept more
unfolding with_file
file-IsKept number told more fields is kept =
    let said = after-Ok (or_bad number (file_of told.sets told.files fields)) _ more is in
    let for = file_of-IsFileFor told.sets told.files fields said.0 (or_bad-Ok number (file_of told.sets told.files fields) said.0 said.1) in
    let made : Ok (record told { files = told.files ++ said.0 ∷ [] }) ≡ Ok more = said.2 in
    let same : (record told { files = told.files ++ said.0 ∷ [] }) ≡ more = cc in
    subst IsKept same (record {
      few_sets = kept.few_sets;
      few_users = kept.few_users;
      few_clients = kept.few_clients;
      few_dicts = kept.few_dicts;
      loaders = kept.loaders;
      files = All-one_more (λ (file : FileLine). IsOneOf (length told.sets) file.set) told.files said.0 kept.files for.owned;
      dicts = kept.dicts;
      clients = kept.clients;
      single = λ set role other. single-more told.files said.0 set role other for.may (kept.single set role other);
    })

few_loaders-IsOneOf : (number : Option ℕ) (loaders : ℕ) → few_loaders number ≡ Some loaders → IsOneOf MOST_LOADERS loaders
few_loaders-IsOneOf None loaders is = absurd cc
few_loaders-IsOneOf (Some number) loaders is =
    let tested = if-Some (nat_le 1 number && nat_le number MOST_LOADERS) (Some number) loaders is in
    let is_number : Some number ≡ Some loaders = tested.1 in
    let same : number ≡ loaders = cc in
    subst (IsOneOf MOST_LOADERS) same (record { first = grind (arith, nat_tests, tested.0); last = grind (arith, nat_tests, tested.0) })

-- the number of loaders
loaders_of-IsOneOf : (before : Option ℕ) (fields : List (List ℕ)) (loaders : ℕ) → loaders_of before fields ≡ Some loaders → IsOneOf MOST_LOADERS loaders
loaders_of-IsOneOf None [] loaders is = absurd cc
loaders_of-IsOneOf None (number ∷ []) loaders is = few_loaders-IsOneOf (number_of number) loaders is
loaders_of-IsOneOf None (number ∷ more ∷ fields) loaders is = absurd cc
loaders_of-IsOneOf (Some before) fields loaders is = absurd cc

loaders-IsKept : (number : ℕ) (told more : Told) (fields : List (List ℕ)) → with_loaders number told fields ≡ Ok more → IsKept told → IsKept more
unfolding with_loaders
loaders-IsKept number told more fields is kept =
    let said = after-Ok (or_bad number (loaders_of told.loaders fields)) _ more is in
    let named = or_bad-Ok number (loaders_of told.loaders fields) said.0 said.1 in
    let made : Ok (record told { loaders = Some said.0 }) ≡ Ok more = said.2 in
    let same : (record told { loaders = Some said.0 }) ≡ more = cc in
    subst IsKept same (record {
      few_sets = kept.few_sets;
      few_users = kept.few_users;
      few_clients = kept.few_clients;
      few_dicts = kept.few_dicts;
      loaders = loaders_of-IsOneOf told.loaders fields said.0 named;
      files = kept.files;
      dicts = kept.dicts;
      clients = kept.clients;
      single = kept.single;
    })

certificates-IsKept : (number : ℕ) (told more : Told) (fields : List (List ℕ)) → with_certificates number told fields ≡ Ok more → IsKept told → IsKept more
unfolding with_certificates
certificates-IsKept number told more fields is kept =
    let tested = if-Ok _ _ _ _ is in
    subst IsKept tested.1 (record {
      few_sets = kept.few_sets;
      few_users = kept.few_users;
      few_clients = kept.few_clients;
      few_dicts = kept.few_dicts;
      loaders = kept.loaders;
      files = kept.files;
      dicts = kept.dicts;
      clients = kept.clients;
      single = kept.single;
    })

word-IsKept : (number : ℕ) (told more : Told) (word : List ℕ) (fields : List (List ℕ)) → with_word number told word fields ≡ Ok more → IsKept told → IsKept more
unfolding with_word
word-IsKept number told more word fields is kept =
    if-made IsKept _ _ _ (λ made this. set-IsKept number told made fields this kept) (
    if-made IsKept _ _ _ (λ made this. file-IsKept number told made fields this kept) (
    if-made IsKept _ _ _ (λ made this. user-IsKept number told made fields this kept) (
    if-made IsKept _ _ _ (λ made this. dict-IsKept number told made fields this kept) (
    if-made IsKept _ _ _ (λ made this. client-IsKept number told made fields this kept) (
    if-made IsKept _ _ _ (λ made this. loaders-IsKept number told made fields this kept) (
    if-made IsKept _ (with_certificates number told fields) (Err (Bad number)) (λ made this. certificates-IsKept number told made fields this kept) (λ made this. absurd cc)
    )
    )
    )
    )
    )
    ) more is

fields-IsKept : (number : ℕ) (told more : Told) (fields : List (List ℕ)) → with_fields number told fields ≡ Ok more → IsKept told → IsKept more
fields-IsKept number told more [] is kept = absurd cc
fields-IsKept number told more (word ∷ fields) is kept = word-IsKept number told more word fields is kept

line-IsKept : (number : ℕ) (told more : Told) (line : List ℕ) → with_line number told line ≡ Ok more → IsKept told → IsKept more
unfolding with_line
line-IsKept number told more line is kept =
    if-made IsKept _ (Err (Bad number)) _ (λ made this. absurd cc) (
    if-made IsKept (is_skipped line) (Ok told) (with_fields number told (fields_of line)) (λ made this. let same : told ≡ made = cc in subst IsKept same kept) (λ made this. fields-IsKept number told made (fields_of line) this kept)
    ) more is

-- each number of a range passes
list_all-range : (passes : ℕ → Bool) (first count number : ℕ) → list_all passes (range_with_len first count) ≡ true → first ≤ number → number < first + count → passes number ≡ true
list_all-range passes first zero number all low high = absurd (omega arith)
list_all-range passes first (suc count) number all low high =
    let here : passes first ≡ true = grind (arith, nat_tests, all) in
    let later : list_all passes (range_with_len (first + 1) count) ≡ true = grind (arith, nat_tests, all) in
    elim (cases_Bool (eqb first number)) [
      | inl now ↦ let same : first ≡ number = grind (arith, nat_tests, now) in subst (λ (n : ℕ). passes n ≡ true) same here
      | inr not_now ↦
          let apart : first ≢ number = grind (arith, nat_tests, not_now) in
          list_all-range passes (first + 1) count number later (omega (arith, apart)) (omega arith)
    ]

-- what was told is a manifest
finished-IsSound : (number : ℕ) (told : Told) (manifest : Manifest) → finished number told ≡ Ok manifest → IsKept told → IsNamed manifest → IsSound manifest
finished-IsSound number told manifest is kept named =
    let whole = if-Ok (nat_lt 0 (length told.sets) && have_romaji told) (manifest_from told) manifest (Bad number) is in
    let typed : have_romaji told ≡ true = grind (arith, nat_tests, whole.0) in
    subst IsSound whole.1 (record {
      named = subst IsNamed (sym whole.1) named;
      limits = kept;
      some_set = grind (arith, nat_tests, whole.0);
      romaji = λ set one. grind (arith, list_all-range (λ set. has_file told.files set Romaji) 1 (length told.sets) set typed one.first (omega (arith, one.last)));
    })

-- line by line
pub manifest_after-IsSound : (told : Told) (number : ℕ) (lines : List (List ℕ)) (manifest : Manifest) → manifest_after told number lines ≡ Ok manifest → IsKept told → IsNamed manifest → IsSound manifest
manifest_after-IsSound told number [] manifest is kept named = finished-IsSound number told manifest is kept named
manifest_after-IsSound told number (line ∷ lines) manifest is kept named =
    let read = after-Ok (with_line number told line) (λ more. manifest_after more (number + 1) lines) manifest is in
    manifest_after-IsSound read.0 (number + 1) lines manifest read.2 (line-IsKept number told read.0 line read.1 kept) named

-- nothing told keeps the limits
pub nothing_told-IsKept : IsKept nothing_told
nothing_told-IsKept = record {
  few_sets = omega arith;
  few_users = omega arith;
  few_clients = omega arith;
  few_dicts = λ user. omega arith;
  loaders = record { first = omega arith; last = omega arith };
  files = All-nil (λ (file : FileLine). IsOneOf 0 file.set);
  dicts = All-nil (λ (dict : DictLine). IsOneOf 0 dict.user);
  clients = All-nil (λ (client : ClientLine). IsOneOf 0 client.user);
  single = λ set role other. omega arith;
}

-- The sets of a manifest are the names of its `DATASET` lines, in order.
use Rattle.std.proofs.Common.{◌≡◌, ℕ, ◌+◌, true, false, not, ◌&&◌, nat_lt, codes, List, [], ◌∷◌, ◌++◌, Some, Ok, Err, length, append_assoc, append-nil, refl, sym, ◌∙◌, ap, arith, inl, inr}
use Rattle.std.specs.Prelude.{bytes_eq}
use Rattle.std.specs.List.{flat_map, onto_first}
use Rattle.std.specs.Str.{chars, is_utf8}
use Rattle.std.proofs.lemmas.Bool.{cases_Bool}
use Rattle.std.proofs.lemmas.Bool.Decides.{nat_tests}
use Rattle.mz_base.specs.Lines.{fields_of, is_skipped}
use Rattle.scenario.specs.Entries.{name_of, file_of, dict_of, client_of, loaders_of}
use Rattle.scenario.specs.LineByLine.{set_in, set_named}
use Rattle.scenario.specs.Manifests.{Told, or_bad, with_set, with_file, with_user, with_dict, with_client, with_loaders, with_certificates, with_word, with_fields, with_line, manifest_from, have_romaji, manifest_after}
use Rattle.scenario.specs.Names.{is_among, is_name}
use Rattle.scenario.specs.declared.manifest.Manifest.{Manifest}
use Rattle.scenario.specs.declared.manifest.ManifestError.TheVariants.{Bad}
use Rattle.scenario.proofs.AnswerSteps.{after-Ok, or_bad-Ok, if-Ok, if-Some, if-made}

-- the same sets
abbrev Keeps : Told → Told → Type 0
Keeps told more = more.sets ≡ told.sets

file-keeps : (number : ℕ) (told more : Told) (fields : List (List ℕ)) → with_file number told fields ≡ Ok more → Keeps told more
unfolding with_file
file-keeps number told more fields is =
    let said = after-Ok (or_bad number (file_of told.sets told.files fields)) _ more is in
    let made : Ok (record told { files = told.files ++ said.0 ∷ [] }) ≡ Ok more = said.2 in
    let same : (record told { files = told.files ++ said.0 ∷ [] }) ≡ more = cc in
    sym (ap (λ (t : Told). t.sets) same)

user-keeps : (number : ℕ) (told more : Told) (fields : List (List ℕ)) → with_user number told fields ≡ Ok more → Keeps told more
unfolding with_user
user-keeps number told more fields is =
    let said = after-Ok (or_bad number (name_of told.users fields)) _ more is in
    sym (ap (λ (t : Told). t.sets) (if-Ok _ _ _ _ said.2).1)

dict-keeps : (number : ℕ) (told more : Told) (fields : List (List ℕ)) → with_dict number told fields ≡ Ok more → Keeps told more
unfolding with_dict
dict-keeps number told more fields is =
    let said = after-Ok (or_bad number (dict_of told.users fields)) _ more is in
    sym (ap (λ (t : Told). t.sets) (if-Ok _ _ _ _ said.2).1)

client-keeps : (number : ℕ) (told more : Told) (fields : List (List ℕ)) → with_client number told fields ≡ Ok more → Keeps told more
unfolding with_client
client-keeps number told more fields is =
    let said = after-Ok (or_bad number (client_of told.users told.clients fields)) _ more is in
    sym (ap (λ (t : Told). t.sets) (if-Ok _ _ _ _ said.2).1)

loaders-keeps : (number : ℕ) (told more : Told) (fields : List (List ℕ)) → with_loaders number told fields ≡ Ok more → Keeps told more
unfolding with_loaders
loaders-keeps number told more fields is =
    let said = after-Ok (or_bad number (loaders_of told.loaders fields)) _ more is in
    let made : Ok (record told { loaders = Some said.0 }) ≡ Ok more = said.2 in
    let same : (record told { loaders = Some said.0 }) ≡ more = cc in
    sym (ap (λ (t : Told). t.sets) same)

certificates-keeps : (number : ℕ) (told more : Told) (fields : List (List ℕ)) → with_certificates number told fields ≡ Ok more → Keeps told more
unfolding with_certificates
certificates-keeps number told more fields is = sym (ap (λ (t : Told). t.sets) (if-Ok _ _ _ _ is).1)

-- a name that is new is the field's
named : (names fields : List (List ℕ)) (name : List ℕ) → name_of names fields ≡ Some name → (field : List ℕ) × (fields ≡ field ∷ []) × (chars field ≡ name)
named names [] name is = absurd cc
named names (field ∷ []) name is =
    let tested = if-Some (is_name field && not (is_among names (chars field))) (Some (chars field)) name is in
    let made : Some (chars field) ≡ Some name = tested.1 in
    (field, refl, cc)
named names (field ∷ more ∷ fields) name is = absurd cc

-- a set more
set-adds : (number : ℕ) (told more : Told) (fields : List (List ℕ)) → with_set number told fields ≡ Ok more → (field : List ℕ) × (fields ≡ field ∷ []) × (more.sets ≡ told.sets ++ chars field ∷ [])
unfolding with_set
set-adds number told more fields is =
    let said = after-Ok (or_bad number (name_of told.sets fields)) _ more is in
    let room = if-Ok _ _ _ _ said.2 in
    let field = named told.sets fields said.0 (or_bad-Ok number (name_of told.sets fields) said.0 said.1) in
    (field.0, field.1, sym (ap (λ (t : Told). t.sets) room.1) ∙ ap (λ name. told.sets ++ name ∷ []) (sym field.2))

other-word : (word : List ℕ) (fields : List (List ℕ)) → bytes_eq word (codes "DATASET") ≡ false → set_in (word ∷ fields) ≡ []
other-word word [] other = refl
other-word word (field ∷ []) other = rw other refl
other-word word (field ∷ more ∷ fields) other = refl

-- the sets with those of a line
abbrev Adds : Told → List (List ℕ) → Told → Type 0
Adds told fields more = more.sets ≡ told.sets ++ set_in fields

keeps-adds : (told more : Told) (word : List ℕ) (fields : List (List ℕ)) → bytes_eq word (codes "DATASET") ≡ false → Keeps told more → Adds told (word ∷ fields) more
keeps-adds told more word fields other kept =
    kept ∙ sym (append-nil told.sets) ∙ ap (λ names. told.sets ++ names) (sym (other-word word fields other))

word-adds : (number : ℕ) (told more : Told) (word : List ℕ) (fields : List (List ℕ)) → with_word number told word fields ≡ Ok more → Adds told (word ∷ fields) more
unfolding with_word
word-adds number told more word fields is =
    elim (cases_Bool (bytes_eq word (codes "DATASET"))) [
      | inl set ↦
          let (field, alone, adds) = set-adds number told more fields (rw set at is) in
          rw alone (rw set adds)
      | inr other ↦
          let rest = rw other at is in
          keeps-adds told more word fields other (
          if-made (Keeps told) _ _ _ (λ made this. file-keeps number told made fields this) (
          if-made (Keeps told) _ _ _ (λ made this. user-keeps number told made fields this) (
          if-made (Keeps told) _ _ _ (λ made this. dict-keeps number told made fields this) (
          if-made (Keeps told) _ _ _ (λ made this. client-keeps number told made fields this) (
          if-made (Keeps told) _ _ _ (λ made this. loaders-keeps number told made fields this) (
          if-made (Keeps told) _ (with_certificates number told fields) (Err (Bad number)) (λ made this. certificates-keeps number told made fields this) (λ made this. absurd cc)
          )
          )
          )
          )
          ) more rest)
    ]

fields-adds : (number : ℕ) (told more : Told) (fields : List (List ℕ)) → with_fields number told fields ≡ Ok more → Adds told fields more
fields-adds number told more [] is = absurd cc
fields-adds number told more (word ∷ fields) is = word-adds number told more word fields is

-- a line that is skipped names no set
hash-first : (part : List ℕ) (parts : List (List ℕ)) → set_in ((35 ∷ part) ∷ parts) ≡ []
hash-first part [] = refl
hash-first part (name ∷ []) = refl
hash-first part (name ∷ more ∷ parts) = refl

skipped-none : (line : List ℕ) → is_skipped line ≡ true → set_named line ≡ []
skipped-none [] is = refl
skipped-none (c ∷ line) is =
    let hash : c ≡ 35 = grind (arith, nat_tests, is) in
    rw hash (hash-line line)
  where
    onto : (parts : List (List ℕ)) → set_in (onto_first 35 parts) ≡ []
    onto [] = refl
    onto (part ∷ parts) = hash-first part parts

    hash-line : (line : List ℕ) → set_named (35 ∷ line) ≡ []
    hash-line line = onto (fields_of line)

line-adds : (number : ℕ) (told more : Told) (line : List ℕ) → with_line number told line ≡ Ok more → more.sets ≡ told.sets ++ set_named line
unfolding with_line
line-adds number told more line is =
    elim (cases_Bool (is_utf8 line)) [
      | inl text ↦ elim (cases_Bool (is_skipped line)) [
        | inl skipped ↦
            let here : Ok told ≡ Ok more = rw (text, skipped) at is in
            let same : told ≡ more = cc in
            sym (ap (λ (t : Told). t.sets) same) ∙ sym (append-nil told.sets) ∙ ap (λ names. told.sets ++ names) (sym (skipped-none line skipped))
        | inr read ↦ fields-adds number told more (fields_of line) (rw (text, read) at is)
      ]
      | inr bytes ↦ let never : Err (Bad number) ≡ Ok more = rw bytes at is in absurd cc
    ]

pub sets-named : (told : Told) (number : ℕ) (lines : List (List ℕ)) (manifest : Manifest) → manifest_after told number lines ≡ Ok manifest → manifest.sets ≡ told.sets ++ flat_map set_named lines
sets-named told number [] manifest is =
    let whole = if-Ok (nat_lt 0 (length told.sets) && have_romaji told) (manifest_from told) manifest (Bad number) is in
    sym (ap (λ (m : Manifest). m.sets) whole.1) ∙ sym (append-nil told.sets)
sets-named told number (line ∷ lines) manifest is =
    let read = after-Ok (with_line number told line) (λ more. manifest_after more (number + 1) lines) manifest is in
    sets-named read.0 (number + 1) lines manifest read.2
    ∙ ap (λ sets. sets ++ flat_map set_named lines) (line-adds number told read.0 line read.1)
    ∙ append_assoc told.sets (set_named line) (flat_map set_named lines)

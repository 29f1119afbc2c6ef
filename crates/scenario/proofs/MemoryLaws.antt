-- The definition of a manifest never says that memory ran out.
use Rattle.std.proofs.Common.{◌≡◌, ◌≢◌, ℕ, ◌+◌, arith, Bool, true, false, cond, List, [], ◌∷◌, Result, Ok, Err, ◌∙◌, refl}
use Rattle.mz_base.specs.Answers.{◌>>=◌}
use Rattle.mz_base.specs.Lines.{fields_of}
use Rattle.scenario.specs.Manifests.{Told, with_set, with_file, with_user, with_dict, with_client, with_loaders, with_certificates, with_word, with_fields, with_line, manifest_after}
use Rattle.scenario.specs.declared.manifest.ManifestError.{ManifestError}
use Rattle.scenario.specs.declared.manifest.ManifestError.TheVariants.{Bad, NoMemory}

-- an answer that is a value, or tells a line at fault
abbrev pub IsTold : {A : Type 0} → Result A ManifestError → Type 0
IsTold answer = answer ≢ Err NoMemory

if-IsTold : {A : Type 0} (test : Bool) (one other : Result A ManifestError) → IsTold one → IsTold other → IsTold (cond test one other)
if-IsTold true one other first second is = first is
if-IsTold false one other first second is = second is

value-IsTold : {A : Type 0} (value : A) → IsTold (Ok value)
value-IsTold value is = absurd cc

bad-IsTold : {A : Type 0} (number : ℕ) → IsTold {A = A} (Err (Bad number))
bad-IsTold number is = absurd cc

set-IsTold : (number : ℕ) (told : Told) (fields : List (List ℕ)) → IsTold (with_set number told fields)
unfolding with_set
set-IsTold number told fields is = grind (arith, is)

file-IsTold : (number : ℕ) (told : Told) (fields : List (List ℕ)) → IsTold (with_file number told fields)
unfolding with_file
file-IsTold number told fields is = grind (arith, is)

user-IsTold : (number : ℕ) (told : Told) (fields : List (List ℕ)) → IsTold (with_user number told fields)
unfolding with_user
user-IsTold number told fields is = grind (arith, is)

dict-IsTold : (number : ℕ) (told : Told) (fields : List (List ℕ)) → IsTold (with_dict number told fields)
unfolding with_dict
dict-IsTold number told fields is = grind (arith, is)

client-IsTold : (number : ℕ) (told : Told) (fields : List (List ℕ)) → IsTold (with_client number told fields)
unfolding with_client
client-IsTold number told fields is = grind (arith, is)

loaders-IsTold : (number : ℕ) (told : Told) (fields : List (List ℕ)) → IsTold (with_loaders number told fields)
unfolding with_loaders
loaders-IsTold number told fields is = grind (arith, is)

certificates-IsTold : (number : ℕ) (told : Told) (fields : List (List ℕ)) → IsTold (with_certificates number told fields)
unfolding with_certificates
certificates-IsTold number told fields is = grind (arith, is)

word-IsTold : (number : ℕ) (told : Told) (word : List ℕ) (fields : List (List ℕ)) → IsTold (with_word number told word fields)
unfolding with_word
word-IsTold number told word fields =
    if-IsTold _ _ _ (set-IsTold number told fields) (
    if-IsTold _ _ _ (file-IsTold number told fields) (
    if-IsTold _ _ _ (user-IsTold number told fields) (
    if-IsTold _ _ _ (dict-IsTold number told fields) (
    if-IsTold _ _ _ (client-IsTold number told fields) (
    if-IsTold _ _ _ (loaders-IsTold number told fields) (
    if-IsTold _ _ _ (certificates-IsTold number told fields) (bad-IsTold number)
    )
    )
    )
    )
    )
    )

fields-IsTold : (number : ℕ) (told : Told) (fields : List (List ℕ)) → IsTold (with_fields number told fields)
fields-IsTold number told [] = bad-IsTold number
fields-IsTold number told (word ∷ fields) = word-IsTold number told word fields

line-IsTold : (number : ℕ) (told : Told) (line : List ℕ) → IsTold (with_line number told line)
unfolding with_line
line-IsTold number told line =
    if-IsTold _ _ _ (bad-IsTold number) (if-IsTold _ _ _ (value-IsTold _) (fields-IsTold number told (fields_of line)))

-- line by line
pub manifest_after-IsTold : (told : Told) (number : ℕ) (lines : List (List ℕ)) → IsTold (manifest_after told number lines)
manifest_after-IsTold told number [] = if-IsTold _ _ _ (value-IsTold _) (bad-IsTold number)
manifest_after-IsTold told number (line ∷ lines) =
    elim (with_line number told line) as (λ given. with_line number told line ≡ given → IsTold (given >>= (λ more. manifest_after more (number + 1) lines))) [
      | Ok more ↦ λ given. manifest_after-IsTold more (number + 1) lines
      | Err error ↦ λ given is. line-IsTold number told line (given ∙ (cc))
    ] refl

-- A manifest is read line by line, up to the first line that is refused.
use Rattle.std.proofs.Common.{◌≡◌, ℕ, zero, suc, ◌+◌, ◌<◌, ◌⊎◌, List, [], ◌∷◌, length, Result, Ok, Err, refl, ◌∙◌, ap, arith, inl, inr}
use Rattle.scenario.specs.LineByLine.{IsFirstRefused, IsRead, IsUnfinished}
use Rattle.scenario.specs.Manifests.{Told, with_line, manifest_after}
use Rattle.scenario.specs.declared.manifest.Manifest.{Manifest}
use Rattle.scenario.specs.declared.manifest.ManifestError.{ManifestError}
use Rattle.scenario.proofs.AnswerSteps.{after-Ok}

-- one line further
read-later : (before more : Told) (first : ℕ) (line : List ℕ) (lines : List (List ℕ)) → with_line first before line ≡ Ok more → (place : ℕ) → (next : Told) × IsRead more (first + 1) lines place next → (next : Told) × IsRead before first (line ∷ lines) (suc place) next
read-later before more first line lines is place later =
    let number : first + suc place ≡ (first + 1) + place = omega arith in
    (later.0, record { told = later.1.told; so_far = rw is later.1.so_far; read = rw number later.1.read })

-- where the manifest reads, each line is read
pub each-read : (before : Told) (first : ℕ) (lines : List (List ℕ)) (manifest : Manifest) → manifest_after before first lines ≡ Ok manifest → (place : ℕ) → place < length lines → (next : Told) × IsRead before first lines place next
each-read before first [] manifest given place inside = absurd (omega arith)
each-read before first (line ∷ lines) manifest given zero inside =
    let (more, is, rest) = after-Ok (with_line first before line) (λ more. manifest_after more (first + 1) lines) manifest given in
    let number : first + 0 ≡ first = omega arith in
    (more, record { told = before; so_far = refl; read = rw number is })
each-read before first (line ∷ lines) manifest given (suc place) inside =
    let (more, is, rest) = after-Ok (with_line first before line) (λ more. manifest_after more (first + 1) lines) manifest given in
    read-later before more first line lines is place (each-read more (first + 1) lines manifest rest place (omega arith))

-- the refusal of a line, or of the end
abbrev pub IsRefusedSo : Told → ℕ → List (List ℕ) → ManifestError → Type 0
IsRefusedSo before first lines refused = IsFirstRefused before first lines refused ⊎ IsUnfinished before first lines refused

refused-later : (before more : Told) (first : ℕ) (line : List ℕ) (lines : List (List ℕ)) (refused : ManifestError) → with_line first before line ≡ Ok more → IsRefusedSo more (first + 1) lines refused → IsRefusedSo before first (line ∷ lines) refused
refused-later before more first line lines refused is (inl later) =
    let number : first + suc later.place ≡ (first + 1) + later.place = omega arith in
    inl (record {
      place = suc later.place;
      inside = let there : later.place < length lines = later.inside in omega arith;
      told = later.told;
      so_far = rw is later.so_far;
      refuses = rw number later.refuses;
    })
refused-later before more first line lines refused is (inr later) =
    let number : first + length (line ∷ lines) ≡ (first + 1) + length lines = omega arith in
    inr (record { told = later.told; all = rw is later.all; lacks = rw number later.lacks })

refused-from : (before : Told) (first : ℕ) (line : List ℕ) (lines : List (List ℕ)) (refused : ManifestError) → ((more : Told) → manifest_after more (first + 1) lines ≡ Err refused → IsRefusedSo more (first + 1) lines refused) → (given : Result Told ManifestError) → with_line first before line ≡ given → manifest_after before first (line ∷ lines) ≡ Err refused → IsRefusedSo before first (line ∷ lines) refused
refused-from before first line lines refused later (Ok more) given is =
    refused-later before more first line lines refused given (later more (rw given at is))
refused-from before first line lines refused later (Err error) given is =
    let here : Err error ≡ Err refused = rw given at is in
    let same : error ≡ refused = cc in
    let number : first + 0 ≡ first = omega arith in
    inl (record { place = 0; inside = omega arith; told = before; so_far = refl; refuses = rw number (given ∙ ap (λ e. Err e) same) })

-- where it does not, the first line that is refused is told, or that something lacks at the end
pub first-refused : (before : Told) (first : ℕ) (lines : List (List ℕ)) (refused : ManifestError) → manifest_after before first lines ≡ Err refused → IsRefusedSo before first lines refused
first-refused before first [] refused is =
    let number : first + 0 ≡ first = omega arith in
    inr (record { told = before; all = refl; lacks = rw number is })
first-refused before first (line ∷ lines) refused is =
    refused-from before first line lines refused (λ more. first-refused more (first + 1) lines refused) (with_line first before line) refl is

-- What the lines of a manifest tell one after the other, as its laws say it.
use Rattle.std.specs.Prelude.{◌≡◌, ℕ, ◌+◌, ◌<◌, List, [], ◌∷◌, if◌then◌else◌, codes, bytes_eq, length, take, slice_index_or, Result, Ok, Err}
use Rattle.std.specs.Str.{chars}
use Rattle.mz_base.specs.Answers.{◌>>=◌}
use Rattle.mz_base.specs.Lines.{fields_of}
use Rattle.scenario.specs.Manifests.{Told, with_line, finished}
use Rattle.scenario.specs.declared.manifest.ManifestError.{ManifestError}

-- what these lines tell after what was told before; the first of them has this number
abbrev pub told_after : Told → ℕ → List (List ℕ) → Result Told ManifestError
told_after told number [] = Ok told
told_after told number (line ∷ lines) =
    with_line number told line >>= (λ more. told_after more (number + 1) lines)

-- the line at this place is read after those before it, and this is told then
pub record IsRead (before : Told) (first : ℕ) (lines : List (List ℕ)) (place : ℕ) (more : Told) : Type 0 where
  pub told : Told
  pub so_far : told_after before first (take place lines) ≡ Ok told
  pub read : with_line (first + place) told (slice_index_or lines place []) ≡ Ok more

-- the line at some place is refused so, and each line before it is read
pub record IsFirstRefused (before : Told) (first : ℕ) (lines : List (List ℕ)) (refused : ManifestError) : Type 0 where
  pub place : ℕ
  pub inside : place < length lines
  pub told : Told
  pub so_far : told_after before first (take place lines) ≡ Ok told
  pub refuses : with_line (first + place) told (slice_index_or lines place []) ≡ Err refused

-- each line is read, and what they tell lacks something
pub record IsUnfinished (before : Told) (first : ℕ) (lines : List (List ℕ)) (refused : ManifestError) : Type 0 where
  pub told : Told
  pub all : told_after before first lines ≡ Ok told
  pub lacks : finished (first + length lines) told ≡ Err refused

-- the name that a line `DATASET name` gives a set
abbrev pub set_in : List (List ℕ) → List (List ℕ)
set_in (word ∷ name ∷ []) = if bytes_eq word (codes "DATASET") then chars name ∷ [] else []
set_in _ = []

abbrev pub set_named : List ℕ → List (List ℕ)
set_named line = set_in (fields_of line)

-- What the answer of a manifest's reader is, against the answer that the definition gives.
use Rattle.std.specs.Prelude.{Option, Some, None, Result}
use Rattle.mz_base.specs.Answers.{GivesBy}
use Rattle.scenario.specs.declared.manifest.Manifest.{Manifest}
use Rattle.scenario.specs.declared.manifest.ManifestError.{ManifestError}
use Rattle.scenario.specs.declared.manifest.ManifestError.TheVariants.{Bad, TooLarge, NoMemory}

-- the line that is bad or too large
abbrev pub line_fault : ManifestError → Option ManifestError
line_fault (Bad line) = Some (Bad line)
line_fault (TooLarge limit line) = Some (TooLarge limit line)
line_fault NoMemory = None

-- the answer, its value seen by view, is the definition's, unless memory ran out
abbrev pub Gives : {A B : Type 0} → (A → B) → Result A ManifestError → Result B ManifestError → Type 0
Gives view = GivesBy line_fault view

-- the manifest is the definition's
abbrev pub GivesManifest : Result Manifest ManifestError → Result Manifest ManifestError → Type 0
GivesManifest result wanted = Gives (λ manifest. manifest) result wanted

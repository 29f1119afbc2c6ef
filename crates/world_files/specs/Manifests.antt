-- The manifest of a file, or the refusal of its first line that is bad or too large.
use Rattle.std.specs.Prelude.{ℕ, List, Result, Ok, Err}
use Rattle.mz_base.specs.Lines.{lines_of}
use Rattle.mz_base.specs.declared.status.Refusal.{Refusal}
use Rattle.mz_base.specs.declared.status.Refusal.TheVariants as refusal
use Rattle.scenario.specs.Manifests.{manifest_of}
use Rattle.scenario.specs.declared.manifest.Manifest.{Manifest}
use Rattle.scenario.specs.declared.manifest.ManifestError.{ManifestError}
use Rattle.scenario.specs.declared.manifest.ManifestError.TheVariants as error

abbrev pub manifest_refusal : ManifestError → Refusal
manifest_refusal (error.Bad line) = refusal.BadManifest line
manifest_refusal (error.TooLarge limit line) = refusal.TooLarge limit
manifest_refusal error.NoMemory = refusal.Memory

abbrev pub or_refused : Result Manifest ManifestError → Result Manifest Refusal
or_refused (Ok manifest) = Ok manifest
or_refused (Err fault) = Err (manifest_refusal fault)

-- the manifest in a file of these bytes
abbrev pub manifest_in : List ℕ → Result Manifest Refusal
manifest_in bytes = or_refused (manifest_of (lines_of bytes))

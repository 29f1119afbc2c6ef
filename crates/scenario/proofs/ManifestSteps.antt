-- One line more of a manifest.
use Rattle.std.proofs.Common.{◌≡◌, ℕ, ◌+◌, ◌<◌, ◌≤◌, List, Result, Bor, length, get_or, drop, ap, ◌∙◌}
use Rattle.std.proofs.lemmas.List.{at_drop_more, at_drop_all}
use Rattle.mz_base.specs.Answers.{◌>>=◌}
use Rattle.mz_base.specs.Lines.{pointed}
use Rattle.scenario.specs.Manifests.{Told, with_line, finished, manifest_after}
use Rattle.scenario.specs.declared.manifest.Manifest.{Manifest}
use Rattle.scenario.specs.declared.manifest.ManifestError.{ManifestError}

module _ (told : Told) (lines : List (Bor (List ℕ))) (i : ℕ) where
  -- the manifest, where the line at i leaves this
  abbrev from_line : Result Told ManifestError → Result Manifest ManifestError
  from_line given = given >>= (λ more. manifest_after more (i + 1 + 1) (pointed (drop (i + 1) lines)))

  -- a line is read
  pub manifest_after-line : (d : Bor (List ℕ)) (given : Result Told ManifestError) → i < length lines → with_line (i + 1) told (get_or lines i d).now ≡ given → manifest_after told (i + 1) (pointed (drop i lines)) ≡ from_line given
  manifest_after-line d given inside is =
      at_drop_more (λ rest. manifest_after told (i + 1) (pointed rest)) lines i d inside ∙ ap from_line is

  -- no line is left
  pub manifest_after-end : length lines ≤ i → manifest_after told (i + 1) (pointed (drop i lines)) ≡ finished (i + 1) told
  manifest_after-end past = at_drop_all (λ rest. manifest_after told (i + 1) (pointed rest)) lines i past

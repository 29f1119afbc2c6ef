-- One dictionary file more.
use Rattle.std.proofs.Common.{◌≡◌, ℕ, ◌+◌, ◌<◌, ◌≤◌, List, Result, Ok, Err, Bor, length, get_or, drop, ap, ◌∙◌}
use Rattle.std.proofs.lemmas.List.{at_drop_more, at_drop_all}
use Rattle.mz_base.specs.Answers.{◌>>=◌}
use Rattle.mz_base.specs.declared.data.WordRow.{WordRow}
use Rattle.mz_base.specs.declared.fault.Fault.{Fault}
use Rattle.mz_base.specs.declared.fault.Role.TheVariants.{Dictionary}
use Rattle.dict_rows.specs.Rows.{word_rows}
use Rattle.engine.specs.Sets.{in_file, words_after}
use Rattle.engine.specs.Tables.{pointed}
use Rattle.engine.specs.declared.files.SetFile.{SetFile}

module _ (ids : ℕ) (rows : List WordRow) (files : List (Bor SetFile)) (i : ℕ) where
  -- what all files give, where those up to the one at i give this
  abbrev from_rows : Result (List WordRow) Fault → Result (List WordRow) Fault
  from_rows given =
      given >>= (λ more. words_after ids more (i + 1 + 1) (pointed (drop (i + 1) files)))

  -- what the file at i gives after these rows
  abbrev pub given_at : Bor SetFile → Result (List WordRow) Fault
  given_at d = in_file Dictionary (i + 1) (word_rows ids rows (get_or files i d).now.bytes)

  pub words_after-read : (d : Bor SetFile) (more : List WordRow) → i < length files → given_at d ≡ Ok more → words_after ids rows (i + 1) (pointed (drop i files)) ≡ words_after ids more (i + 1 + 1) (pointed (drop (i + 1) files))
  words_after-read d more inside given =
      at_drop_more (λ rest. words_after ids rows (i + 1) (pointed rest)) files i d inside ∙ ap from_rows given

  pub words_after-fault : (d : Bor SetFile) (fault : Fault) → i < length files → given_at d ≡ Err fault → words_after ids rows (i + 1) (pointed (drop i files)) ≡ Err fault
  words_after-fault d fault inside given =
      at_drop_more (λ rest. words_after ids rows (i + 1) (pointed rest)) files i d inside ∙ ap from_rows given

  -- no file is left
  pub words_after-end : length files ≤ i → words_after ids rows (i + 1) (pointed (drop i files)) ≡ Ok rows
  words_after-end past =
      at_drop_all (λ rest. words_after ids rows (i + 1) (pointed rest)) files i past

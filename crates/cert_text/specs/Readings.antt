-- What the lines of a certificate's file read as: docs/FORMATS.md, "Certificates".
use Rattle.std.specs.Prelude.{ℕ, ◌+◌, List, [], Option, Some, None, option_and_then, slice_get, Result, Ok, Err, codes}
use Rattle.mz_base.specs.Answers.{◌>>=◌}
use Rattle.mz_base.specs.Lines.{text_line, fields_of}
use Rattle.mz_base.specs.declared.lattice.Certificate.{Certificate}
use Rattle.cert_text.specs.Fields.{after_word, values_of, ordinal_of, potential_of, total_of, bounds_of}

-- the fields of a line that is text
abbrev pub fields_in : Option (List ℕ) → List (List ℕ)
fields_in None = []
fields_in (Some line) = fields_of line

-- the fields of the line at a place, from 0; where there is none, and where it is no text, there are none
abbrev pub fields_at : List (List ℕ) → ℕ → List (List ℕ)
fields_at lines place = fields_in (option_and_then text_line (slice_get lines place))

-- what a line gives, or its number
abbrev pub or_line : {A : Type 0} → ℕ → Option A → Result A ℕ
or_line number None = Err number
or_line number (Some value) = Ok value

-- what the fields after the word of the line at a place read as, or the line's number
abbrev pub line_at : {A : Type 0} → List (List ℕ) → ℕ → List ℕ → (List (List ℕ) → Option A) → Result A ℕ
line_at lines place word read = or_line (place + 1) (option_and_then read (after_word word (fields_at lines place)))

-- The certificate in four lines; or the number of the first that is missing or does not read.
unfoldable pub certificate_of : ℕ → List (List ℕ) → Result Certificate ℕ
certificate_of key_length lines = do
  bounds ← line_at lines 0 (codes "bounds") (bounds_of key_length)
  path ← line_at lines 1 (codes "path") (values_of ordinal_of)
  potentials ← line_at lines 2 (codes "potentials") (values_of potential_of)
  total ← line_at lines 3 (codes "total") total_of
  Ok (record { bounds = bounds; path = path; potentials = potentials; total = total })

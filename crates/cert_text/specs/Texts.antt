-- The text of a certificate: docs/FORMATS.md, "Certificates".
use Rattle.std.specs.Prelude.{List, ℕ, [], ◌∷◌, ◌++◌, map, codes}
use Rattle.std.specs.List.{flat_map}
use Rattle.std.specs.Fmt.{decimal, signed_decimal}
use Rattle.mz_base.specs.declared.lattice.Certificate.{Certificate}

-- a field after a tab
abbrev pub tabbed : List ℕ → List ℕ
tabbed field = codes "\t" ++ field

-- a line is a word, and then its fields
abbrev pub line_text : List ℕ → List (List ℕ) → List ℕ
line_text word fields = word ++ (flat_map tabbed fields ++ codes "\n")

-- the four lines of a certificate
abbrev pub certificate_text : Certificate → List ℕ
certificate_text certificate =
    line_text (codes "bounds") (map decimal certificate.bounds)
    ++ (line_text (codes "path") (map decimal certificate.path)
    ++ (line_text (codes "potentials") (map signed_decimal certificate.potentials)
    ++ line_text (codes "total") (signed_decimal certificate.total ∷ [])))

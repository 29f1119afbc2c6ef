-- A list of files by name. The first of a name is the one that is read.
use Rattle.std.specs.Prelude.{ℕ, List, Option, option_map, bytes_eq, find}

pub record NamedFile : Type 0 where
  pub name : List ℕ
  pub bytes : List ℕ

-- the bytes of the first file of this name
abbrev pub file_named : List NamedFile → List ℕ → Option (List ℕ)
file_named files name = option_map (λ file. file.bytes) (find (λ file. bytes_eq file.name name) files)

-- How many files there are of a role.
use Rattle.std.proofs.Common.{◌≤◌, List, length, arith}
use Rattle.std.proofs.lemmas.List.Sums.{count_by-le-length, length-filter}
use Rattle.mz_base.specs.declared.fault.Role.{Role}
use Rattle.engine.specs.Sets.{files_of, has_role}
use Rattle.engine.specs.declared.files.SetFile.{SetFile}

pub files_of_at_most : (role : Role) (files : List SetFile) → length (files_of role files) ≤ length files
files_of_at_most role files =
    omega (arith, length-filter (has_role role) files, count_by-le-length (has_role role) files)

-- Certificates stand by client.
use Rattle.std.specs.Prelude.{◌≤◌, List, [], ◌∷◌, ⊤}
use Rattle.std.specs.List.{AllByRecursion}
use Rattle.mz_base.specs.declared.logs.CertEntry.{CertEntry}

-- none stands before one of a lower client
abbrev pub AreByClient : List CertEntry → Type 0
AreByClient [] = ⊤
AreByClient (first ∷ entries) =
    AllByRecursion (λ (entry : CertEntry). first.client ≤ entry.client) entries × AreByClient entries

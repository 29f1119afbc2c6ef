-- The numbers and texts of statuses: docs/FORMATS.md, "Statuses".
use Rattle.std.specs.Prelude.{ℕ, List, ◌++◌, Option, Some, None, codes, encode_utf8_all}
use Rattle.std.specs.Fmt.{decimal, signed_decimal}
use Rattle.mz_base.specs.Faults.{kind_text}
use Rattle.mz_base.specs.declared.status.Limit.{Limit}
use Rattle.mz_base.specs.declared.status.Limit.TheVariants as limit
use Rattle.mz_base.specs.declared.status.CertFault.{CertFault}
use Rattle.mz_base.specs.declared.status.CertFault.TheVariants as certificate
use Rattle.mz_base.specs.declared.status.Refusal.{Refusal}
use Rattle.mz_base.specs.declared.status.Refusal.TheVariants as refusal
use Rattle.mz_base.specs.declared.status.Status.{Status}
use Rattle.mz_base.specs.declared.status.Status.TheVariants as status

-- the number with which the program ends after a refusal
abbrev pub refusal_number : Refusal → ℕ
refusal_number refusal.Memory = 1
refusal_number refusal.ReadFault = 3
refusal_number (refusal.Absent _) = 5
refusal_number (refusal.BadManifest _) = 6
refusal_number (refusal.BadScript _ _) = 7
refusal_number (refusal.BadData _) = 8
refusal_number (refusal.TooLarge _) = 9
refusal_number (refusal.BadSchedule _) = 10
refusal_number (refusal.BadCertificate _) = 11
refusal_number (refusal.NoSet _) = 13
refusal_number (refusal.Unbuilt _ _) = 20

-- the number with which the program ends
abbrev pub status_number : Status → ℕ
status_number status.Ok = 0
status_number status.Usage = 2
status_number status.WriteFault = 4
status_number status.Unmet = 12
status_number (status.Refused refused) = refusal_number refused

abbrev pub limit_text : Limit → List ℕ
limit_text limit.Bytes = codes "Bytes"
limit_text limit.Sets = codes "Sets"
limit_text limit.Users = codes "Users"
limit_text limit.Clients = codes "Clients"
limit_text limit.Dictionaries = codes "Dictionaries"
limit_text limit.Commands = codes "Commands"
limit_text limit.Key = codes "Key"
limit_text limit.Report = codes "Report"

-- two fields, and a space between them
abbrev pub spaced : List ℕ → List ℕ → List ℕ
spaced first second = first ++ (codes " " ++ second)

-- an entry of a path, or the name of the side where there is none
abbrev pub end_text : List ℕ → Option ℕ → List ℕ
end_text side None = side
end_text side (Some ordinal) = decimal ordinal

abbrev pub certificate_text : CertFault → List ℕ
certificate_text (certificate.Text line) = codes "Text " ++ decimal line
certificate_text (certificate.Length wanted found) = codes "Length " ++ spaced (decimal wanted) (decimal found)
certificate_text (certificate.Path place) = codes "Path " ++ decimal place
certificate_text (certificate.Edge from to) = codes "Edge " ++ spaced (end_text (codes "start") from) (end_text (codes "end") to)
certificate_text (certificate.Total said found) = codes "Total " ++ spaced (signed_decimal said) (signed_decimal found)

-- a refusal's name, and its fields, separated by spaces
abbrev pub refusal_text : Refusal → List ℕ
refusal_text refusal.Memory = codes "Memory"
refusal_text refusal.ReadFault = codes "ReadFault"
refusal_text (refusal.Absent name) = codes "Absent " ++ encode_utf8_all name
refusal_text (refusal.BadManifest line) = codes "BadManifest " ++ decimal line
refusal_text (refusal.BadScript file line) = codes "BadScript " ++ spaced (encode_utf8_all file) (decimal line)
refusal_text (refusal.BadData set) = codes "BadData " ++ spaced (encode_utf8_all set.path) (kind_text set.fault.kind)
refusal_text (refusal.TooLarge limit) = codes "TooLarge " ++ limit_text limit
refusal_text (refusal.BadSchedule line) = codes "BadSchedule " ++ decimal line
refusal_text (refusal.BadCertificate fault) = codes "BadCertificate " ++ certificate_text fault
refusal_text (refusal.NoSet name) = codes "NoSet " ++ encode_utf8_all name
refusal_text (refusal.Unbuilt file line) = codes "Unbuilt " ++ spaced (encode_utf8_all file) (decimal line)

-- a status's name, or the text of its refusal
abbrev pub status_text : Status → List ℕ
status_text status.Ok = codes "Ok"
status_text status.Usage = codes "Usage"
status_text status.WriteFault = codes "WriteFault"
status_text status.Unmet = codes "Unmet"
status_text (status.Refused refused) = refusal_text refused

use Rattle.std.proofs.Common.{◌++◌, codes, sym, subst}
use Rattle.std.specs.List.{flat_map}
use Rattle.std.specs.String.{string_bytes}
use Rattle.report.specs.Printed.{Adds}
use Rattle.report.specs.Texts.{certificate_entry_text, kept_text}
use Rattle.report.proofs.Passing.{comes_after}
use Rattle.report.proofs.certificates.print_certificates.Goals as goal

-- the certificates come after their heading
pub returns-in_ok-write-in-Some : goal.returns-in_ok-write-in-Some
returns-in_ok-write-in-Some c =
    let text = certificate_entry_text c.args.logs.now in
    let start = string_bytes c.args.out.now in
    let end = string_bytes c.print_entries.new.out in
    let after = comes_after start (codes "certificates\n") (flat_map text c.as_slice.result.now) (string_bytes c.write.new.self) end c.print_entries.result c.in_ok-write-in-Some.ensures.bytes c.print_entries.ensures in
    let all = subst (λ entries. Adds {A = Unit {0}} start (codes "certificates\n" ++ flat_map text entries) c.print_entries.result end) c.as_slice.ensures after in
    subst (λ kept. Adds {A = Unit {0}} start (kept_text c.args.logs.now kept) c.print_entries.result end) (sym c.in-Some.is) all

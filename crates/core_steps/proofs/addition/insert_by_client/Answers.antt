use Rattle.std.proofs.Common.{◌≡◌, true, false, rules, sym, subst, ◌∙◌, nat_le}
use Rattle.std.specs.List.Sorted.{IsPartitionPoint, IsPartitionedBy}
use Rattle.std.proofs.lemmas.List.Sorted.{IsPartitionPoint-from_clause, IsPartitionedBy-leb}
use Rattle.mz_base.specs.declared.logs.CertEntry.{CertEntry}
use Rattle.core_steps.proofs.Certified.{inserted, rising}
use Rattle.core_steps.proofs.addition.insert_by_client.Goals as goal

pub returns-clause-ok : goal.returns-clause-ok
returns-clause-ok c =
    let entries = c.args.entries.now.items in
    let made = c.args.made in
    let place = c.partition_point-place.result in
    let slice = c.as_slice.result.now in
    let is = c.as_slice.ensures.value in
    let low = λ (entry : CertEntry). nat_le entry.client made.client in
    let parted = subst (λ xs. IsPartitionedBy low xs) (sym is) (IsPartitionedBy-leb (λ (entry : CertEntry). entry.client) entries made.client (rising entries c.requires)) in
    let parts = IsPartitionPoint-from_clause low slice place c.partition_point-place.ensures.partitioned parted (λ a r f' called. search rules) in
    let here = subst (λ xs. IsPartitionPoint (λ entry. low entry ≡ true) (λ entry. low entry ≡ false) xs place) is parts in
    c.in_ok-insert.ensures.items ∙ sym (inserted made entries place here)

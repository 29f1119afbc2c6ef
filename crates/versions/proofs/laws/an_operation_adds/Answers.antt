use Rattle.versions.specs.Histories.{installed}
use Rattle.versions.proofs.Histories.{latest-snoc, entries_of-installed, IsPlace-snoc, Begins-self, Begins-after}
use Rattle.versions.proofs.laws.an_operation_adds.Goals as goal

pub returns-clause-value : goal.returns-clause-value
returns-clause-value g c = λ p value entry. latest-snoc p.log (installed value entry)

pub returns-clause-entry : goal.returns-clause-entry
returns-clause-entry g c = λ p value entry. entries_of-installed p.log value entry

pub returns-clause-place : goal.returns-clause-place
returns-clause-place g c = λ p value entry n at. IsPlace-snoc n p.log (installed value entry) at

pub returns-clause-begins : goal.returns-clause-begins
returns-clause-begins g c = λ p value entry. Begins-after p p value entry (Begins-self p)

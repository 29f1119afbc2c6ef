-- What the rules of a file have.
use Rattle.std.proofs.Common.{◌≡◌, ℕ, List, [], Result, Ok, Err, refl, subst}
use Rattle.std.specs.List.{AllByRecursion}
use Rattle.std.specs.List.Sorted.{IsPermutation}
use Rattle.std.proofs.lemmas.List.Elements.{All-nil, recursion_from_All}
use Rattle.mz_base.specs.Answers.{◌>>=◌}
use Rattle.mz_base.specs.Kana.{AreRules, IsRule}
use Rattle.mz_base.specs.Latest.{latest}
use Rattle.mz_base.specs.Lines.{lines_of}
use Rattle.mz_base.specs.Rows.{rows_after}
use Rattle.mz_base.specs.declared.fault.FaultKind.{FaultKind}
use Rattle.mz_base.specs.declared.romaji.Rule.{Rule}
use Rattle.mz_base.proofs.AnswerLemmas.{part_gave}
use Rattle.mz_base.proofs.ByNameLemmas.{latest_by_name-rise, latest_by_name-same}
use Rattle.mz_base.proofs.RowFacts.{rows_after-All}
use Rattle.romaji_table.specs.Inputs.{RiseByInput, input_of, latest_by_input, same_input}
use Rattle.romaji_table.specs.Rows.{line_rules, romaji_row, romaji_rows}
use Rattle.romaji_table.proofs.LatestRules.{latest-AreRules, row-IsRule}

kept-AreRules : (read : Result (List Rule) FaultKind) (rules : List Rule) → ((rows : List Rule) → read ≡ Ok rows → AllByRecursion IsRule rows) → (read >>= (λ rows. Ok (latest_by_input rows))) ≡ Ok rules → AreRules rules
kept-AreRules (Err kind) rules each given = absurd cc
kept-AreRules (Ok rows) rules each given =
    let same : latest_by_input rows ≡ rules = cc in
    subst AreRules same (latest-AreRules rows (each rows refl))

pub AreRules-read : (bytes : List ℕ) (rules : List Rule) → romaji_rows bytes ≡ Ok rules → AreRules rules
AreRules-read bytes rules given =
    kept-AreRules (rows_after romaji_row [] 1 (lines_of bytes)) rules (λ rows read. recursion_from_All IsRule rows (rows_after-All IsRule romaji_row row-IsRule [] 1 (lines_of bytes) rows (All-nil IsRule) read)) given

pub RiseByInput-read : (bytes : List ℕ) (rules : List Rule) → romaji_rows bytes ≡ Ok rules → RiseByInput rules
RiseByInput-read bytes rules given =
    let (rows, read, kept) = part_gave (line_rules bytes) _ rules given in
    let same : latest_by_input rows ≡ rules = cc in
    subst RiseByInput same (latest_by_name-rise input_of rows)

pub same-read : (bytes : List ℕ) (rows rules : List Rule) → line_rules bytes ≡ Ok rows → romaji_rows bytes ≡ Ok rules → IsPermutation (latest same_input rows) rules
same-read bytes rows rules read given =
    let kept : Ok (latest_by_input rows) ≡ Ok rules = rw read at given in
    let same : latest_by_input rows ≡ rules = cc in
    subst (IsPermutation (latest same_input rows)) same (latest_by_name-same input_of rows)

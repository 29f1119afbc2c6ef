-- What was at a place comes there again.
use Rattle.std.proofs.Common.{◌≡◌, ap, ◌∙◌, ℕ, ◌<◌, List, Option, length, slice_index_or, slice_set, get_or-set_same}
use Rattle.std.proofs.lemmas.List.{set-get_or, set-set}
use Rattle.mz_base.specs.declared.logs.ClientLog.{ClientLog}
use Rattle.mz_base.specs.declared.logs.Own.{Own}
use Rattle.mz_base.specs.declared.report.Line.{Line}
use Rattle.run_meaning.specs.States.{no_client_log}
use Rattle.core_steps.specs.Additions.{noted_at, noted_in}

pub put_back : {A : Type 0} (items : List A) (place : ℕ) (was : A) → ((none : A) → was ≡ slice_index_or items place none) → slice_set items place was ≡ items
put_back items place was is =
    ap (λ item. slice_set items place item) (is was) ∙ set-get_or items place was

-- the log at the place is the noted one
pub noted_there : (before logs : List ClientLog) (place : ℕ) (own : Own) (line : Option Line) → place < length before → logs ≡ noted_at before place own line → slice_index_or logs place no_client_log ≡ noted_in (slice_index_or before place no_client_log) own line
noted_there before logs place own line there are =
    ap (λ all. slice_index_or all place no_client_log) are ∙ get_or-set_same before place (noted_in (slice_index_or before place no_client_log) own line) no_client_log there

-- where the log there is the earlier one again, the logs are
pub taken_back : (before logs : List ClientLog) (place : ℕ) (own : Own) (line : Option Line) (log : ClientLog) → logs ≡ noted_at before place own line → log ≡ slice_index_or before place no_client_log → slice_set logs place log ≡ before
taken_back before logs place own line log are is =
    ap (λ all. slice_set all place log) are ∙ set-set before place (noted_in (slice_index_or before place no_client_log) own line) log ∙ ap (λ item. slice_set before place item) is ∙ set-get_or before place no_client_log

use Rattle.std.proofs.Common.{Vec, Global, List, Err, ap, ◌∙◌, refl}
use Rattle.std.proofs.lemmas.Result.{err_from_is_err_and}
use Rattle.mz_base.specs.declared.data.IdRow.{IdRow}
use Rattle.mz_base.specs.declared.data.JoinRow.{JoinRow}
use Rattle.mz_base.specs.declared.data.PosRow.{PosRow}
use Rattle.mz_base.specs.declared.data.UnknownRow.{UnknownRow}
use Rattle.mz_base.specs.declared.data.ValueRow.{ValueRow}
use Rattle.mz_base.specs.declared.data.WordRow.{WordRow}
use Rattle.mz_base.specs.declared.romaji.Rule.{Rule}
use Rattle.conn_matrix.specs.Costs.{CostTable}
use Rattle.engine.specs.Sets.{data_of}
use Rattle.mz_base.proofs.AnswerLemmas.{GivesBy-handed_on}
use Rattle.engine.specs.Answers.{set_fault}
use Rattle.engine.proofs.tables.read_tables.Goals as goal

pub returns-in_err-matrix : goal.returns-in_err-matrix
unfolding data_of
returns-in_err-matrix c =
    let error = err_from_is_err_and c.from_residual.result c.from_residual.ensures.1 in
    GivesBy-handed_on set_fault _ (λ (matrix : CostTable). matrix) _ _ _ _ (error.1 ∙ ap Err error.2) c.in_err-matrix.ensures

pub returns-in_err-ids : goal.returns-in_err-ids
unfolding data_of
returns-in_err-ids c =
    let error = err_from_is_err_and c.from_residual-in_err-ids.result c.from_residual-in_err-ids.ensures.1 in
    rw (c.in_ok-matrix.ensures, ← c.size-n_ids.ensures) (GivesBy-handed_on set_fault _ (λ (ids : List IdRow). ids) _ _ _ _ (error.1 ∙ ap Err error.2) c.in_err-ids.ensures)

pub returns-in_err-unknown : goal.returns-in_err-unknown
unfolding data_of
returns-in_err-unknown c =
    let error = err_from_is_err_and c.from_residual-in_err-unknown.result c.from_residual-in_err-unknown.ensures.1 in
    rw (c.in_ok-matrix.ensures, ← c.size-n_ids.ensures, c.in_ok-ids.ensures) (GivesBy-handed_on set_fault _ (λ (unknown : List UnknownRow). unknown) _ _ _ _ (error.1 ∙ ap Err error.2) c.in_err-unknown.ensures)

pub returns-in_err-joins : goal.returns-in_err-joins
unfolding data_of
returns-in_err-joins c =
    let error = err_from_is_err_and c.from_residual-in_err-joins.result c.from_residual-in_err-joins.ensures.1 in
    rw (c.in_ok-matrix.ensures, ← c.size-n_ids.ensures, c.in_ok-ids.ensures, c.in_ok-unknown.ensures) (GivesBy-handed_on set_fault _ (λ (joins : List JoinRow). joins) _ _ _ _ (error.1 ∙ ap Err error.2) c.in_err-joins.ensures)

pub returns-in_err-pos : goal.returns-in_err-pos
unfolding data_of
returns-in_err-pos c =
    let error = err_from_is_err_and c.from_residual-in_err-pos.result c.from_residual-in_err-pos.ensures.1 in
    rw (c.in_ok-matrix.ensures, ← c.size-n_ids.ensures, c.in_ok-ids.ensures, c.in_ok-unknown.ensures, c.in_ok-joins.ensures) (GivesBy-handed_on set_fault _ (λ (pos : List PosRow). pos) _ _ _ _ (error.1 ∙ ap Err error.2) c.in_err-pos.ensures)

pub returns-in_err-rules : goal.returns-in_err-rules
unfolding data_of
returns-in_err-rules c =
    let error = err_from_is_err_and c.from_residual-in_err-rules.result c.from_residual-in_err-rules.ensures.1 in
    rw (c.in_ok-matrix.ensures, ← c.size-n_ids.ensures, c.in_ok-ids.ensures, c.in_ok-unknown.ensures, c.in_ok-joins.ensures, c.in_ok-pos.ensures) (GivesBy-handed_on set_fault _ (λ (rules : List Rule). rules) _ _ _ _ (error.1 ∙ ap Err error.2) c.in_err-rules.ensures)

pub returns-in_err-words : goal.returns-in_err-words
unfolding data_of
returns-in_err-words c =
    let error = err_from_is_err_and c.from_residual-in_err-words.result c.from_residual-in_err-words.ensures.1 in
    rw (c.in_ok-matrix.ensures, ← c.size-n_ids.ensures, c.in_ok-ids.ensures, c.in_ok-unknown.ensures, c.in_ok-joins.ensures, c.in_ok-pos.ensures, c.in_ok-rules.ensures) (GivesBy-handed_on set_fault _ (λ (rows : Vec WordRow Global). rows.items) _ _ _ _ (error.1 ∙ ap Err error.2) c.in_err-words.ensures)

pub returns-in_err-symbols : goal.returns-in_err-symbols
unfolding data_of
returns-in_err-symbols c =
    let error = err_from_is_err_and c.from_residual-in_err-symbols.result c.from_residual-in_err-symbols.ensures.1 in
    rw (c.in_ok-matrix.ensures, ← c.size-n_ids.ensures, c.in_ok-ids.ensures, c.in_ok-unknown.ensures, c.in_ok-joins.ensures, c.in_ok-pos.ensures, c.in_ok-rules.ensures, c.in_ok-words.ensures) (GivesBy-handed_on set_fault _ (λ (symbols : List ValueRow). symbols) _ _ _ _ (error.1 ∙ ap Err error.2) c.in_err-symbols.ensures)

pub returns-in_err-kanji : goal.returns-in_err-kanji
unfolding data_of
returns-in_err-kanji c =
    let error = err_from_is_err_and c.from_residual-in_err-kanji.result c.from_residual-in_err-kanji.ensures.1 in
    rw (c.in_ok-matrix.ensures, ← c.size-n_ids.ensures, c.in_ok-ids.ensures, c.in_ok-unknown.ensures, c.in_ok-joins.ensures, c.in_ok-pos.ensures, c.in_ok-rules.ensures, c.in_ok-words.ensures, c.in_ok-symbols.ensures) (GivesBy-handed_on set_fault _ (λ (kanji : List ValueRow). kanji) _ _ _ _ (error.1 ∙ ap Err error.2) c.in_err-kanji.ensures)

pub returns : goal.returns
unfolding data_of
returns c = rw (c.in_ok-matrix.ensures, ← c.size-n_ids.ensures, c.in_ok-ids.ensures, c.in_ok-unknown.ensures, c.in_ok-joins.ensures, c.in_ok-pos.ensures, c.in_ok-rules.ensures, c.in_ok-words.ensures, c.in_ok-symbols.ensures, c.in_ok-kanji.ensures) refl

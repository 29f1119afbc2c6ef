use Rattle.std.proofs.Common.{◌≡◌, IfOk, ap, ◌∙◌, subst}
use Rattle.mz_base.specs.declared.conversion.Conversion.{Conversion}
use Rattle.session_meaning.specs.Stages.{Composition}
use Rattle.session.proofs.ChoosingLemmas.{conversion-is}
use Rattle.session.proofs.composition.Composition.conversion.Goals as goal

pub returns : goal.returns
returns g c =
    let lists = ap g.D.DataSet.lists c.deref.ensures ∙ ap (λ inside. inside.pinned.lists) c.self-inside.view_is ∙ ap (λ (made : Composition). made.pinned.lists) c.self.view_is in
    let rows = ap g.U.UserWords.rows c.deref-2.ensures ∙ ap (λ inside. inside.pinned.rows) c.self-inside.view_is ∙ ap (λ (made : Composition). made.pinned.rows) c.self.view_is in
    let history = c.as_slice.ensures.value ∙ (ap (λ pairs. pairs.items) c.deref-3.ensures ∙ (ap (λ inside. inside.pinned.history) c.self-inside.view_is ∙ ap (λ (made : Composition). made.pinned.history) c.self.view_is)) in
    let same = conversion-is (g.D.DataSet.lists c.deref.result.now) (g.U.UserWords.rows c.deref-2.result.now) c.as_slice.result.now c.args.self.now c.args.key.now c.args.bounds.now lists rows history c.requires.same in
    subst (λ (made : Conversion). IfOk c.convert.result (λ conversion. conversion ≡ made)) same c.convert.ensures

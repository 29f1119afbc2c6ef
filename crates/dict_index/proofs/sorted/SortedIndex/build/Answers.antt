use Rattle.std.proofs.Common.{◌∙◌, ap, map, pos, slice_index_or}
use Rattle.mz_base.specs.declared.data.WordRow.{WordRow}
use Rattle.dict_index.specs.Heads.{head_of}
use Rattle.dict_index.proofs.Codes.{AreInOrder-heads}
use Rattle.dict_index.proofs.Costs.{built-AreBeside, built-is}
use Rattle.dict_index.proofs.sorted.SortedIndex.build.Goals as goal

pub invariant_of-result : goal.invariant_of-result
invariant_of-result c =
    let texts = c.in_ok-texts.texts in
    let places = c.in_ok-places.places.items in
    let heads = c.in_ok-heads.heads.items in
    let heads_are = c.in_ok-heads.ensures ∙ ap (λ places. map (head_of texts) places) c.as_slice.ensures.value in
    let costs_are = c.in_ok-costs.ensures ∙ ap (λ places. map (λ place. slice_index_or (map (λ (row : WordRow). row.cost) c.args.rows.now) place (pos 0)) places) c.as_slice-2.ensures.value in
    (AreInOrder-heads texts places heads c.in_ok-places.ensures heads_are, built-AreBeside c.args.rows.now texts places heads c.in_ok-costs.costs.items c.in_ok-texts.ensures c.in_ok-places.ensures heads_are costs_are)

pub returns : goal.returns
returns c =
    let texts = c.in_ok-texts.texts in
    let places = c.in_ok-places.places.items in
    let heads = c.in_ok-heads.heads.items in
    let heads_are = c.in_ok-heads.ensures ∙ ap (λ places. map (head_of texts) places) c.as_slice.ensures.value in
    let costs_are = c.in_ok-costs.ensures ∙ ap (λ places. map (λ place. slice_index_or (map (λ (row : WordRow). row.cost) c.args.rows.now) place (pos 0)) places) c.as_slice-2.ensures.value in
    built-is c.args.rows.now texts places heads c.in_ok-costs.costs.items c.in_ok-texts.ensures c.in_ok-places.ensures heads_are costs_are

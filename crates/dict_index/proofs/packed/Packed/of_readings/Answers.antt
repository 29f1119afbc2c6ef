use Rattle.std.proofs.Common.{◌≡◌, ◌<◌, ◌+◌, ◌++◌, ◌∷◌, [], sym, ap, length, get_or, map, take, ◌∙◌, arith, rules}
use Rattle.std.proofs.lemmas.List.{map-append, take_more}
use Rattle.mz_base.specs.declared.data.WordRow.{WordRow}
use Rattle.dict_index.proofs.PackedTexts.{IsPacked-more, texts_of-more}
use Rattle.dict_index.proofs.packed.Packed.of_readings.Goals as goal

pub loop-row-preserved : goal.loop-row-preserved
loop-row-preserved c =
    let letters = c.loop-row.letters.items in
    let starts = c.loop-row.starts.items in
    let rows = c.args.rows.now in
    let i = c.loop-row.row-index in
    let row = c.row-item.result in
    let text = row.reading in
    let reading = λ (row : WordRow). row.reading in
    let more : c.extend_from_slice.new.self.items ≡ letters ++ text = search rules in
    let long : c.len.result ≡ length c.extend_from_slice.new.self.items = search rules in
    let end = long ∙ ap (λ cs. length cs) more in
    let pushed : c.push-in-loop-row.new.self.items ≡ starts ++ length (letters ++ text) ∷ [] = c.in_ok-push-2.ensures.items ∙ ap (λ n. starts ++ n ∷ []) end in
    let inside : i < length rows = omega arith in
    let front : map reading (take i rows) ++ text ∷ [] ≡ map reading (take (i + 1) rows) =
    sym (ap (λ xs. map reading xs) (take_more rows i row inside) ∙ map-append reading (take i rows) (get_or rows i row ∷ []) ∙ ap (λ r. map reading (take i rows) ++ reading r ∷ []) (sym c.row-item.is)) in
    record {
      packed = rw (more, pushed) (IsPacked-more letters text starts c.loop-row.invariant.packed);
      texts = rw (more, pushed) (texts_of-more letters text starts c.loop-row.invariant.packed ∙ ap (λ texts. texts ++ text ∷ []) c.loop-row.invariant.texts ∙ front);
    }

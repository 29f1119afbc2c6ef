use Rattle.std.proofs.Common.{◌≡◌, ◌+◌, ◌-◌, ◌++◌, ◌≤◌, [], sym, ap, subst, length, map, flat_map, filter, ◌∙◌, arith, append-nil, append_assoc, take_all}
use Rattle.std.specs.List.{range_with_len}
use Rattle.std.proofs.lemmas.Bool.Decides.{Decides-eqb}
use Rattle.std.proofs.lemmas.List.{length-map}
use Rattle.mz_base.specs.Data.{hits_at, hits_to, rows_with}
use Rattle.dict_index.proofs.KeyParts.{begins, begins-all, begun-AllBegin, begun-next, begun-sorted, ends-more, found-exact, front-AllBegin, none-left, part}
use Rattle.dict_index.specs.Heads.{places_in}
use Rattle.dict_index.specs.Order.{AllBegin}
use Rattle.dict_index.proofs.look_up.hits_from.Goals as goal
use Rattle.dict_index.proofs.look_up.hits_from.Goals.{else-loop-end-test, then-loop-end-test+then-is_empty}

pub loop-end-init : goal.loop-end-init
loop-end-init c =
    let key = c.args.key.now in
    let begin = c.args.begin in
    let texts = c.args.texts.now in
    let places = places_in c.args.heads.now in
    let first : begin + 1 - 1 ≡ begin = omega arith in
    let many : length key + 1 - (begin + 1) ≡ length key - begin = omega arith in
    let hits = hits_to texts key begin in
    record {
      begun = sym (ap (λ end. filter (begins key begin texts end) places) first ∙ begins-all key begin texts places);
      are = c.requires.index.are;
      hits = ap (λ found. found ++ flat_map hits (range_with_len (begin + 1) (length key + 1 - (begin + 1)))) c.in_ok-hits.ensures.items ∙ ap (λ n. flat_map hits (range_with_len (begin + 1) n)) many;
    }

pub narrowed-begun-requires-clause-sorted : goal.narrowed-begun-requires-clause-sorted
narrowed-begun-requires-clause-sorted c =
    begun-sorted c.args.key.now c.args.begin c.args.texts.now (places_in c.args.heads.now) c.requires.index.index (c.loop-end.end - 1) (places_in c.loop-end.begun.heads.now) c.loop-end.invariant.begun

pub narrowed-begun-requires-clause-begun : goal.narrowed-begun-requires-clause-begun
narrowed-begun-requires-clause-begun c =
    front-AllBegin c.args.key.now c.args.begin c.args.texts.now (places_in c.args.heads.now) c.loop-end.end c.part-part.result.now (places_in c.loop-end.begun.heads.now) c.part-part.ensures c.loop-end.invariant.begun (omega arith) (omega arith)

pub exact-found-requires : goal.exact-found-requires
exact-found-requires c =
    let key = c.args.key.now in
    let begin = c.args.begin in
    let texts = c.args.texts.now in
    let places = places_in c.args.heads.now in
    let end = c.loop-end.end in
    let next = (places_in c.narrowed-begun.result.heads.now) in
    let within : end ≤ length key = omega arith in
    let begun : next ≡ filter (begins key begin texts end) places =
    begun-next key begin texts places (end - 1) end c.part-part.result.now (places_in c.loop-end.begun.heads.now) next c.part-part.ensures c.loop-end.invariant.begun c.narrowed-begun.ensures.found (omega arith) within in
    record {
      sorted = begun-sorted key begin texts places c.requires.index.index end next begun;
      are = c.narrowed-begun.ensures.are;
      begun = subst (λ cs. AllBegin texts cs next) (sym c.part-part.ensures) (begun-AllBegin key begin texts places end next begun);
    }

pub loop-end-preserved : goal.loop-end-preserved
loop-end-preserved c =
    let key = c.args.key.now in
    let begin = c.args.begin in
    let texts = c.args.texts.now in
    let places = places_in c.args.heads.now in
    let end = c.loop-end.end in
    let cs = c.part-part.result.now in
    let within : end ≤ length key = omega arith in
    let begun : (places_in c.narrowed-begun.result.heads.now) ≡ filter (begins key begin texts end) places =
    begun-next key begin texts places (end - 1) end cs (places_in c.loop-end.begun.heads.now) (places_in c.narrowed-begun.result.heads.now) c.part-part.ensures c.loop-end.invariant.begun c.narrowed-begun.ensures.found (omega arith) within in
    let found : (places_in c.exact-found.result.now) ≡ rows_with texts (part key begin end) =
    found-exact key begin texts places c.requires.index.index end cs (places_in c.narrowed-begun.result.heads.now) (places_in c.exact-found.result.now) c.part-part.ensures begun c.exact-found.ensures within in
    let hits = hits_to texts key begin in
    let old = c.loop-end.hits.items in
    let last = length key + 1 in
    let rest = range_with_len (end + 1) (last - (end + 1)) in
    let added : c.add_hits.new.hits.items ≡ old ++ hits end =
    c.in_ok-add_hits.ensures ∙ ap (λ rows. old ++ map (λ row. record { end = end; row = row }) rows) found in
    let next : end + 1 - 1 ≡ end = omega arith in
    record {
      begun = begun ∙ sym (ap (λ n. filter (begins key begin texts n) places) next);
      are = c.narrowed-begun.ensures.are;
      hits = ap (λ found. found ++ flat_map hits rest) added ∙ append_assoc old (hits end) (flat_map hits rest) ∙ ap (λ ends. old ++ flat_map hits ends) (sym (ends-more end last (omega arith))) ∙ c.loop-end.invariant.hits;
    }

pub returns : goal.returns
unfolding hits_at
returns c =
    let key = c.args.key.now in
    let begin = c.args.begin in
    let texts = c.args.texts.now in
    let places = places_in c.args.heads.now in
    let end = c.loop-end.end in
    let hits = hits_to texts key begin in
    let old = c.loop-end.hits.items in
    let last = length key + 1 in
    elim c.loop-end-test.branch [
      | else-loop-end-test w ↦
          let past = w.loop-end-test.false in
          let none : last - end ≡ 0 = omega (arith, past) in
          sym (append-nil old) ∙ ap (λ n. old ++ flat_map hits (range_with_len end n)) (sym none) ∙ c.loop-end.invariant.hits
      | then-loop-end-test+then-is_empty w ↦
          let next = (places_in w.narrowed-begun.result.heads.now) in
          let test = w.loop-end-test.true in
          let within : end ≤ length key = omega (arith, test) in
          let begun : next ≡ filter (begins key begin texts end) places =
          begun-next key begin texts places (end - 1) end w.part-part.result.now (places_in c.loop-end.begun.heads.now) next w.part-part.ensures c.loop-end.invariant.begun w.narrowed-begun.ensures.found (omega arith) within in
          let none : length next ≡ 0 =
          length-map w.narrowed-begun.result.heads.now (λ head. head.place) ∙ (Decides-eqb (length w.narrowed-begun.result.heads.now) 0).0 (sym w.if-is_empty.ensures) in
          let empty : next ≡ [] = sym (take_all 0 next (omega (arith, none))) in
          sym (append-nil old) ∙ ap (λ more. old ++ more) (sym (none-left key begin texts places c.requires.index.index end (sym begun ∙ empty))) ∙ c.loop-end.invariant.hits
    ]

use Rattle.std.proofs.Common.{◌≡◌, ◌+◌, ◌<◌, sym, ap, [], get_or, length, take, drop, ◌∙◌, arith, rules, length-take}
use Rattle.dict_index.proofs.PackedTexts.{none_past, slice_range-cut, text_read}
use Rattle.dict_index.proofs.packed.Packed.get.Goals as goal

pub returns-then-len-place : goal.returns-then-len-place
returns-then-len-place c =
    let many : c.len.result ≡ length c.self.inside.starts.items = search rules in
    sym (ap (λ texts. get_or texts c.args.place []) (sym c.self.view_is) ∙ none_past c.self.inside.letters.items c.self.inside.starts.items c.args.place (omega (arith, many, c.if-len-place.true)))

pub split_at-requires : goal.split_at-requires
split_at-requires c =
    let many : c.len.result ≡ length c.self.inside.starts.items = search rules in
    let inside : c.args.place + 1 < length c.self.inside.starts.items =
    omega (arith, many, c.if-len-place.false) in
    let read = text_read c.self.inside.letters.items c.self.inside.starts.items c.args.place c.index-start.result.now c.index.result.now c.self.invariant inside c.index-start.ensures c.index.ensures in
    let long = ap (λ letters. length letters) c.as_slice.ensures.value in
    omega (arith, read.1, long)

pub split_at-requires-2 : goal.split_at-requires-2
split_at-requires-2 c =
    let many : c.len.result ≡ length c.self.inside.starts.items = search rules in
    let inside : c.args.place + 1 < length c.self.inside.starts.items =
    omega (arith, many, c.if-len-place.false) in
    let read = text_read c.self.inside.letters.items c.self.inside.starts.items c.args.place c.index-start.result.now c.index.result.now c.self.invariant inside c.index-start.ensures c.index.ensures in
    let long = ap (λ letters. length letters) c.as_slice.ensures.value in
    let front = ap (λ letters. length letters) c.split_at.ensures.front in
    omega (arith, read.0, read.1, long, front, length-take c.index.result.now c.as_slice.result.now)

pub returns : goal.returns
returns c =
    let many : c.len.result ≡ length c.self.inside.starts.items = search rules in
    let inside : c.args.place + 1 < length c.self.inside.starts.items =
    omega (arith, many, c.if-len-place.false) in
    let start = c.index-start.result.now in
    let end = c.index.result.now in
    let letters = c.self.inside.letters.items in
    let read = text_read letters c.self.inside.starts.items c.args.place start end c.self.invariant inside c.index-start.ensures c.index.ensures in
    let front = c.split_at.ensures.front ∙ ap (λ cs. take end cs) c.as_slice.ensures.value in
    c.split_at-2.ensures.back ∙ ap (λ cs. drop start cs) front ∙ slice_range-cut letters start end read.0 ∙ sym (ap (λ texts. get_or texts c.args.place []) (sym c.self.view_is) ∙ read.2)

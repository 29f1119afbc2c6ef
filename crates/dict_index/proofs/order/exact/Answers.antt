use Rattle.std.proofs.Common.{ap, ◌∙◌, take}
use Rattle.dict_index.specs.Heads.{places_in}
use Rattle.dict_index.proofs.Codes.{IsPartitionedBy-whole, is_whole, standing-whole, take_while-filter}
use Rattle.dict_index.proofs.order.exact.Goals as goal

pub returns : goal.returns
returns c =
    let texts = c.args.texts.now in
    let text = c.args.text.now in
    let heads = c.args.heads.now in
    let first = take_while-filter (is_whole texts heads text c.requires.are) heads (IsPartitionedBy-whole texts heads text c.requires.are c.requires.begun c.requires.sorted) in
    ap places_in (c.split_at.ensures.front ∙ ap (λ n. take n heads) c.count_of_width-count.ensures ∙ first) ∙ standing-whole texts heads text c.requires.are c.requires.begun

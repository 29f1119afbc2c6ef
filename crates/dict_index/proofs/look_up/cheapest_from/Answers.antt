use Rattle.std.proofs.Common.{◌≡◌, IfOk, subst}
use Rattle.dict_index.proofs.Costs.{cheapest-found}
use Rattle.dict_index.proofs.look_up.cheapest_from.Goals as goal

pub returns : goal.returns
returns c =
    let is = cheapest-found c.args.texts.now c.args.heads.now c.args.costs.now c.args.prefix.now c.args.most c.block-span.result c.in_span.result.now c.in_span-2.result.now c.requires.index c.requires.costs c.in_span.ensures c.in_span-2.ensures c.block-span.ensures.found in
    subst (λ wanted. IfOk c.cheapest_of.result (λ found. found.items ≡ wanted)) is c.cheapest_of.ensures

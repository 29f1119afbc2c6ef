use Rattle.std.proofs.Common.{◌≡◌, IfOk, subst}
use Rattle.engine.specs.Lists.{lists_of}
use Rattle.engine.proofs.IndexCosts.{cheapest-words}
use Rattle.engine.proofs.data.EngineDataSet.cheapest_with_prefix.Goals as goal

pub returns : goal.returns
returns c =
    let engine = c.args.self.now in
    let is = cheapest-words (lists_of engine) engine.index c.args.most c.args.prefix.now engine.indexed in
    subst (λ wanted. IfOk c.cheapest_with_prefix.result (λ found. found.items ≡ wanted)) is c.cheapest_with_prefix.ensures

use Rattle.std.proofs.Common.{rules}
use Rattle.std.proofs.lemmas.Fn.{always_returns_same}
use Rattle.romaji_table.proofs.InputOrder.{order, order-rises, found-at, none-between}
use Rattle.romaji_table.proofs.index.find.Goals as goal

pub returns-in-Ok : goal.returns-in-Ok
returns-in-Ok c =
    let answers = c.in-Ok.ensures.position (order c.args.rules.now c.args.places.now c.args.input.now c.requires) (always_returns_same _ _ _ (λ x r f' k. search rules)) in
    found-at c.args.rules.now c.args.places.now c.args.input.now c.requires c.in-Ok.index c.get.result (search rules) answers (search rules)

pub returns-in-Err : goal.returns-in-Err
returns-in-Err c =
    let answers = c.in-Err.ensures.position (order c.args.rules.now c.args.places.now c.args.input.now c.requires) (always_returns_same _ _ _ (λ x r f' k. search rules)) in
    none-between c.args.rules.now c.args.places.now c.args.input.now c.requires c.in-Err.field-0 (answers (order-rises c.args.rules.now c.args.places.now c.args.input.now c.requires))

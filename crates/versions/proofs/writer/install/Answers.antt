use Rattle.std.proofs.Common.{◌≡◌, sym, ap, subst, ◌∙◌, drop, Some}
use Rattle.left_right.specs.Sides.{view as seat_view}
use Rattle.versions.specs.Histories.{Begins}
use Rattle.versions.proofs.Histories.{Begins-same}
use Rattle.versions.proofs.Rules.{publishes, last_shown}
use Rattle.versions.proofs.writer.install.Goals as goal

pub publish_as-copies-requires : goal.publish_as-copies-requires
publish_as-copies-requires g c =
    let begins = subst (λ d. Begins d.shown.value.known c.args.operation.known) (sym c.in-Ok.ensures.desk) c.requires in
    let now = c.append.new.self in
    publishes (λ s. s.known) now.desk.place.id (seat_view now.desk.place) now.desk.shown.value (drop c.args.copies.behind c.args.copies.log.items) (drop now.behind now.log.items) c.args.operation begins c.in-Ok.ensures.pending

-- what is shown afterwards is the operation
shown_is : (g : _) (c : goal.In-Ok-shown g) → c.publish_as-copies.result.0.desk.shown.value.known ≡ c.args.operation.known
shown_is g c =
    let now = c.append.new.self in
    let values = rw c.in-Ok-shown.is at c.publish_as-copies.ensures.values in
    last_shown (λ s. s.known) now.desk.shown.value.known (drop c.args.copies.behind c.args.copies.log.items) (drop now.behind now.log.items) c.args.operation c.in-Ok.ensures.pending _ values.0

pub returns-in-Ok-shown-clause-begins : goal.returns-in-Ok-shown-clause-begins
returns-in-Ok-shown-clause-begins g c = Begins-same _ _ (shown_is g c)

pub returns-in-Ok-shown-clause-shown : goal.returns-in-Ok-shown-clause-shown
returns-in-Ok-shown-clause-shown g c = shown_is g c

pub returns-in-Ok-shown-clause-seat : goal.returns-in-Ok-shown-clause-seat
returns-in-Ok-shown-clause-seat g c =
    let rule = rw c.in-Ok-shown.is at c.publish_as-copies.ensures.rule in
    rule.1 ∙ ap Some (shown_is g c)

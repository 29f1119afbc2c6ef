use Rattle.std.proofs.Common.{◌≡◌, [], ◌∷◌, ◌++◌, sym, ap, subst, ◌∙◌, Some, IfSome}
use Rattle.std.specs.Arc.{arc_value}
use Rattle.versions.specs.Books.{Keeps}
use Rattle.versions.specs.Histories.{after_operation, installed, latest, Begins}
use Rattle.versions.proofs.Histories.{latest-snoc, entries-snoc}
use Rattle.versions.proofs.publisher.Publisher.publish.Goals as goal

-- the receipt's value is the latest
pub new-requires : goal.new-requires
new-requires g c =
    let value = arc_value c.args.value in
    let entered : c.add.new.self ≡ after_operation c.again-known.result value c.args.entry = c.if-not-add.ensures in
    let known : c.again.result ≡ after_operation c.again-known.result value c.args.entry = c.again.ensures ∙ entered in
    let latest_is : latest c.again.result.log ≡ latest (after_operation c.again-known.result value c.args.entry).log = ap (λ k. latest k.log) known in
    latest_is ∙ (latest-snoc c.again-known.result.log (installed value c.args.entry) ∙ ap Some (sym c.in-Ok-Ok.ensures))

-- head, entries and copies are those of the longer history
pub invariant_of-self-2 : goal.invariant_of-self-2
invariant_of-self-2 g c =
    let before = c.self.inside.newest.known in
    let items = c.push_reserved.new.self.items in
    let value = arc_value c.args.value in
    let entered : c.add.new.self ≡ after_operation c.again-known.result value c.args.entry = c.if-not-add.ensures in
    let known : c.new-2.result.known ≡ after_operation before value c.args.entry = c.new-2.ensures.known ∙ (entered ∙ ap (λ p. after_operation p value c.args.entry) c.again-known.ensures) in
    let pushed : items ≡ c.self.inside.entries.items ++ c.args.entry ∷ [] = c.push_reserved.ensures.items ∙ ap (λ entries. entries ++ c.args.entry ∷ []) c.reserve.ensures.items in
    let entries = entries-snoc before.log value c.args.entry c.self.inside.entries.items items c.self.invariant.0.entries_are c.self.invariant.0.all pushed in
    let whole = subst (λ p. Keeps p c.self.inside.head items) (sym known) (record { head = c.self.invariant.0.head; entries_are = entries.0; all = entries.1 }) in
    let operation : c.new-operation.result.known ≡ c.new-2.result.known = c.new-operation.ensures.known ∙ (c.again-2.ensures ∙ sym c.new-2.ensures.known) in
    let shown = subst (λ p. IfSome c.show.new.copies (λ copies. Begins copies.desk.shown.value.known p)) operation c.show.ensures in
    (whole, shown)

use Rattle.std.proofs.Common.{◌≡◌, ◌+◌, sym, ◌∙◌, ap}
use Rattle.versions.proofs.Adding.{add_moves}
use Rattle.versions.proofs.known.Known.add.Goals as goal

pub compare_exchange-found-requires : goal.compare_exchange-found-requires
compare_exchange-found-requires g c =
    let head = c.requires in
    let seen = c.again-seen.ensures in
    let offer = c.plain-offer.ensures in
    let pen = c.no_pen-pen.ensures in
    let next : c.in-Some.next ≡ c.self.inside.place + 1 = c.in-Some.ensures.1 in
    let book : c.again-seen.result.book ≡ c.args.head.now.book = ap (λ s. s.book) seen ∙ (ap (λ p. p.registry) c.self.view_is ∙ sym (ap (λ w. w.book) head)) in (
      ap (λ w. w.tracked) head,
      book,
      pen.0 ∙ book,
      offer.0,
      rw (ap (λ w. w.key) head, pen.1, offer.1, offer.3, ap (λ s. s.log) seen, next) (add_moves c.self.inside.seen.log _ c.self.inside.place c.self.invariant),
    )

use Rattle.std.proofs.Common.{◌≡◌, refl, sym, ap, ◌∙◌, subst, inl, inr, List, ◌+◌, arith, w64, to_z, of_z}
use Rattle.std.specs.Prelude.{ℤ, slice_index}
use Rattle.std.proofs.lemmas.Int.{ints}
use Rattle.conversion_meaning.specs.Lattices.{entry}
use Rattle.viterbi.specs.declared.arrivals.Arrival.{Arrival}
use Rattle.viterbi.specs.declared.table.Reached.{Reached}
use Rattle.viterbi.specs.Arrivals.{IsArrival}
use Rattle.viterbi.specs.Table.{reached}
use Rattle.viterbi.proofs.ArrivalLemmas.{Gathered-push, Gathered-skip, IsGatheredFrom, IsGatheredFrom-next, IsGatheredFrom-none, AreAllArrivals-from_gathered}
use Rattle.viterbi.proofs.arrivals.arrivals_at.Goals as goal
use Rattle.viterbi.proofs.arrivals.arrivals_at.Goals.{then-span-entry+in_ok-push, else-span-entry}

pub loop-past-init : goal.loop-past-init
loop-past-init c =
    subst (λ (xs : List Arrival). IsGatheredFrom c.args.entries.now c.args.by_end.now c.args.span.now c.args.table.now c.args.to c.args.cursor c.args.cursor xs) (sym c.clear.ensures.items) (IsGatheredFrom-none c.args.entries.now c.args.by_end.now c.args.span.now c.args.table.now c.args.to c.args.cursor c.requires.at)

pub returns-then-entry-to-clause-all : goal.returns-then-entry-to-clause-all
returns-then-entry-to-clause-all c =
    AreAllArrivals-from_gathered c.args.entries.now c.args.by_end.now c.args.span.now c.args.table.now c.args.to c.args.cursor c.loop-past.past _ c.requires.by_end c.requires.at (inr (let low = c.requires.at.after c.loop-past.past c.loop-past.invariant.at c.loop-past-test.true in let differ = c.if-entry-to.true in omega (arith, low, differ))) c.loop-past.invariant refl refl

pub returns-clause-all : goal.returns-clause-all
returns-clause-all c =
    let high = c.loop-past-test.false in
    let within = c.loop-past.invariant.within in
    AreAllArrivals-from_gathered c.args.entries.now c.args.by_end.now c.args.span.now c.args.table.now c.args.to c.args.cursor c.loop-past.past _ c.requires.by_end c.requires.at (inl (omega (arith, high))) c.loop-past.invariant refl (omega (arith, high, within))

pub loop-past-preserved : goal.loop-past-preserved
loop-past-preserved c =
    let es = c.args.entries.now in
    let here = c.loop-past.list.items in
    let n = c.loop-past.past in
    let o = slice_index c.args.by_end.now n in
    let Kept : List Arrival → Type 0 = IsGatheredFrom es c.args.by_end.now c.args.span.now c.args.table.now c.args.to c.args.cursor (n + 1) in
    let so_far = c.loop-past.invariant.gathered in
    let ends = c.if-entry-to.false in
    let next = λ (ys : List Arrival). IsGatheredFrom-next es c.args.by_end.now c.args.span.now c.args.table.now c.args.to c.args.cursor n here ys c.loop-past.invariant c.loop-past-test.true ends in
    let cost = (reached c.args.table.now o).cost in
    let arrival_of : ℤ → Arrival = λ z. record { cost = to_z w64 (of_z w64 z); ordinal = o; rid = (entry es o).rid } in
    let inside = c.requires.by_end.ordinals n 0 c.loop-past-test.true in
    elim c.if-span-entry.branch [ then-span-entry+in_ok-push w ↦ (let begins = w.if-span-entry.true in let there = c.requires.reached o inside ends in let low = (c.requires.small o there).above in let high = (c.requires.small o there).below in let fits : to_z w64 (of_z w64 cost) ≡ cost = grind (arith, ints) in let read = ap (λ (r : Reached). r.cost) w.at.ensures in let same = ap (λ (z : ℤ). to_z w64 (of_z w64 z)) read ∙ fits in let x = arrival_of w.at.result.cost in let is : IsArrival es c.args.span.now c.args.table.now c.args.to x = record { inside = there; ends = ends; begins = begins; cost_is = same; rid_is = refl } in let items = ap (λ v. v.items) w.list-is ∙ w.in_ok-push.ensures.items in subst Kept (sym items) (next _ (Gathered-push es c.args.by_end.now c.args.span.now c.args.table.now c.args.to n here x c.requires.by_end c.loop-past-test.true so_far is refl))) | else-span-entry w ↦ (let items = ap (λ v. v.items) w.list-is in subst Kept (sym items) (next here (Gathered-skip es c.args.by_end.now c.args.span.now c.args.table.now c.args.to n here so_far (λ _ begins. let e = w.if-span-entry.false in omega (arith, e, begins))))) ]

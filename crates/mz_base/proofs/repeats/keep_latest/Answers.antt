use Rattle.std.proofs.Common.{◌≡◌, ℕ, ◌∷◌, [], true, false, Vec, Global, rules, ◌∙◌}
use Rattle.std.specs.List.{list_any}
use Rattle.std.specs.List.Sorted.{IsPermutation}
use Rattle.std.specs.Str.{bytes_eq}
use Rattle.mz_base.proofs.LatestSteps.{IsPartLatest-start, IsPartLatest-end, IsPartLatest-new, IsPartLatest-old}
use Rattle.mz_base.proofs.repeats.keep_latest.Goals as goal

pub loop-row-preserved : goal.loop-row-preserved
loop-row-preserved g c =
    let input : c.in_ok-name.name.items ≡ g.T.Named.name c.in-Some.row = c.in_ok-name.ensures.items ∙ c.name.ensures in
    let known : list_any (λ (key : Vec ℕ Global). bytes_eq c.in_ok-name.name.items key.items) c.loop-row.seen.keys ≡ true = search rules in
    let same : c.insert.new.self.keys ≡ c.loop-row.seen.keys = search rules in
    IsPartLatest-old g.T.Named.name (λ key. key.items) c.args.rows.items c.pop.new.self.items c.loop-row.kept.items c.in-Some.row c.loop-row.seen.keys c.insert.new.self.keys (rw (← input) known) same (rw c.in-Some.ensures.items at c.loop-row.invariant)

pub loop-row-init : goal.loop-row-init
loop-row-init g c =
    rw (c.new-kept.ensures.items, c.new-seen.ensures.empty) (IsPartLatest-start g.T.Named.name (λ (key : Vec ℕ Global). key.items) c.args.rows.items)

pub returns : goal.returns
returns g c =
    let done : c.loop-row.left.items ≡ [] = search rules in
    c.reverse.ensures.items ∙ IsPartLatest-end g.T.Named.name (λ (key : Vec ℕ Global). key.items) c.args.rows.items c.loop-row.kept.items c.loop-row.seen.keys (rw done at c.loop-row.invariant)

pub loop-row-preserved-in-Continue-branch-3 : goal.loop-row-preserved-in-Continue-branch-3
loop-row-preserved-in-Continue-branch-3 g c =
    let key = c.in_ok-name.name in
    let input : key.items ≡ g.T.Named.name c.in-Some.row = c.in_ok-name.ensures.items ∙ c.name.ensures in
    let unknown : list_any (λ (key : Vec ℕ Global). bytes_eq c.in_ok-name.name.items key.items) c.loop-row.seen.keys ≡ false = search rules in
    let moved : IsPermutation (key ∷ c.loop-row.seen.keys) c.insert.new.self.keys = search rules in
    rw c.in_ok-push.ensures.items (IsPartLatest-new g.T.Named.name (λ (key : Vec ℕ Global). key.items) c.args.rows.items c.pop.new.self.items c.loop-row.kept.items c.in-Some.row c.loop-row.seen.keys c.insert.new.self.keys key input (rw (← input) unknown) moved (rw c.in-Some.ensures.items at c.loop-row.invariant))

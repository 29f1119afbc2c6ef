use Rattle.std.proofs.Common.{◌<◌, ◌+◌, ◌∙◌, ap, sym, subst, arith, drop, length}
use Rattle.std.specs.List.{fold}
use Rattle.run_meaning.specs.Orders.{obeyed}
use Rattle.run_meaning.specs.Worlds.{client_plan}
use Rattle.core_steps.specs.Cores.{Ran, now}
use Rattle.core_steps.specs.Followings.{obeyed_first}
use Rattle.core_steps.specs.Kepts.{ran}
use Rattle.core_steps.proofs.KeptLemmas.{clients-there}
use Rattle.core_steps.proofs.OrderLemmas.{drop-next, obeyed-next, turn}
use Rattle.core_steps.proofs.running.Running.all_obeyed.Goals as goal

pub loop-index-preserved : goal.loop-index-preserved
loop-index-preserved g c =
    let index = c.loop-index.index in
    let client = c.args.place + 1 in
    let before = ran c.loop-index.self in
    let after = ran c.obeyed.new.self in
    let whole = now (ran c.args.self.now) (fold (obeyed c.args.self.now.world client) c.args.self.now.state (client_plan c.args.self.now.world client).commands) in
    let left = drop index (client_plan before.world client).commands in
    let same = sym c.in_ok-obeyed.ensures.ok in
    record {
      kept = c.in_ok-obeyed.ensures.kept;
      within = subst (λ (r : Ran). c.args.place < length r.world.clients) same c.loop-index.invariant.within;
      commands = c.loop-index.invariant.commands ∙ ap (λ (r : Ran). length (client_plan r.world client).commands) same;
      rest = turn (λ world s. fold (obeyed world client) s (drop index (client_plan world client).commands)) (λ world s. fold (obeyed world client) s (drop (index + 1) (client_plan world client).commands)) (λ world s. obeyed_first world client s (drop index (client_plan world client).commands)) before after whole (ap (fold (obeyed before.world client) (obeyed_first before.world client before.state left)) (drop-next index (client_plan before.world client).commands) ∙ obeyed-next before.world client before.state left) c.in_ok-obeyed.ensures.ok c.loop-index.invariant.rest;
    }

pub client-requires : goal.client-requires
client-requires g c =
    let count = clients-there c.args.self.now c.requires.kept in
    omega (arith, count, c.requires.within)

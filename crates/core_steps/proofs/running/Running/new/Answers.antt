use Rattle.std.proofs.Common.{◌≡◌, ◌∙◌, sym, length, rules}
use Rattle.std.proofs.lemmas.List.{length-map}
use Rattle.core_steps.proofs.BeginningLemmas.{kept_from}
use Rattle.core_steps.proofs.running.Running.new.Goals as goal

pub returns : goal.returns
returns g c =
    let jobs : c.len.result ≡ length c.world.inside.jobs.items = search rules in
    kept_from _ _ c.in_ok-logs.logs _ c.in_ok-board.board c.in_ok-standings.field-0.items c.args.world c.world.view_is c.requires c.len.result (jobs ∙ sym (length-map c.world.inside.jobs.items _)) c.in_ok-board.ensures c.in_ok-standings.ensures c.in_ok-progresses.ensures.plans c.in_ok-logs.ensures c.in_ok-progresses.ensures.progress

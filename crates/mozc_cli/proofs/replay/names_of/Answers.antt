use Rattle.std.proofs.Common.{List, ℕ, map, ap, ◌∙◌}
use Rattle.mz_base.specs.declared.logs.Names.{Names}
use Rattle.run_meaning.specs.Worlds.{ClientPlan, UserPlan}
use Rattle.mozc_cli.specs.Replays.{names_of}
use Rattle.mozc_cli.proofs.replay.names_of.Goals as goal

pub returns : goal.returns
returns g c =
    let users = c.in_ok-user_names.ensures ∙ ap (map (λ (user : UserPlan). user.name)) c.as_slice.ensures.value in
    let clients = c.in_ok-client_names.ensures ∙ ap (map (λ (client : ClientPlan). client.name)) c.as_slice-2.ensures.value in
    let made : List (List ℕ) → List (List ℕ) → Names = λ users clients. record { users = users; clients = clients } in
    ap (λ names. made names c.in_ok-client_names.field-0) users ∙ (ap (made _) clients ∙ ap names_of c.world.view_is)

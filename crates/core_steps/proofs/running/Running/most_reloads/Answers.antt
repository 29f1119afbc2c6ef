use Rattle.std.proofs.Common.{◌<◌, ◌^◌, subst, sym}
use Rattle.core_steps.proofs.OrderLemmas.{most-few}
use Rattle.core_steps.proofs.running.Running.most_reloads.Goals as goal

pub returns-clause-few : goal.returns-clause-few
returns-clause-few g c =
    subst (λ n. n < 2 ^ 32) (sym c.most_of_users.ensures) (most-few c.args.self.now.world c.requires.world.reloads)

use Rattle.std.proofs.Common.{◌<◌, IfSome, sym, subst, length}
use Rattle.core_steps.specs.Certificates.{AreByClient}
use Rattle.core_steps.specs.Kepts.{Kept}
use Rattle.core_steps.proofs.KeptLemmas.{log-within, sorted}
use Rattle.core_steps.proofs.running.Running.note.Goals as goal

pub add-requires-clause-client : goal.add-requires-clause-client
add-requires-clause-client g c =
    subst (λ (k : Kept). c.args.place < length k.state.logs.clients) (sym c.self.view_is) (log-within c.args.self.now c.requires.kept c.args.place c.requires.within)

pub add-requires-clause-sorted : goal.add-requires-clause-sorted
add-requires-clause-sorted g c =
    subst (λ (k : Kept). IfSome k.state.logs.certificates AreByClient) (sym c.self.view_is) (sorted c.args.self.now c.requires.kept)

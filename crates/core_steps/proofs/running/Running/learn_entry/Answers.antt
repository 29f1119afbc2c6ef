use Rattle.std.proofs.Common.{◌≡◌, ap, ◌∙◌, arith}
use Rattle.run_meaning.specs.States.{Progress}
use Rattle.core_steps.specs.Kepts.{progress_at}
use Rattle.core_steps.proofs.KeptLemmas.{learns-few}
use Rattle.core_steps.proofs.running.Running.learn_entry.Goals as goal

pub overflow_add-seq : goal.overflow_add-seq
overflow_add-seq g c =
    let kept = c.args.self.now in
    let learns : c.learns-seq.result ≡ (progress_at kept c.args.place).learns = c.learns-seq.ensures ∙ ap (λ (p : Progress). p.learns) c.client-progress.ensures.progress in
    let low = learns-few kept c.requires.kept c.args.place c.requires.within in
    omega (arith, learns, low)

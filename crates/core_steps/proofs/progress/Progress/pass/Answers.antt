use Rattle.std.proofs.Common.{◌+◌, sym, ap, ◌∙◌, false, List, None, drop}
use Rattle.std.proofs.lemmas.List.{drop-drop}
use Rattle.keys.specs.declared.command.Command.{Command}
use Rattle.core_steps.specs.Helds.{Held, over_with}
use Rattle.core_steps.specs.declared.progress.Progress.TheInside.{Inside}
use Rattle.core_steps.proofs.progress.Progress.pass.Goals as goal

-- what is left after the next command is what is left without it
pub returns-then-self-len : goal.returns-then-self-len
returns-then-self-len g c =
    let s = c.self.inside in
    let held : Held = record { plan = s.plan; progress = record { session = s.session; rest = drop s.next s.plan.commands; learned = s.learned; taken = s.taken; seen = s.seen; learns = s.learns; ended = s.ended } } in
    ap (λ (inside : Inside g.row.D.Denot). record { plan = inside.plan; progress = record { session = inside.session; rest = drop (inside.next + 1) inside.plan.commands; learned = false; taken = None; seen = inside.seen; learns = inside.learns; ended = inside.ended } }) c.self-inside.view_is
    ∙ (ap (λ (rest : List Command). record held { progress = record held.progress { rest = rest; learned = false; taken = None } }) (sym (drop-drop 1 s.next s.plan.commands))
    ∙ ap (λ (before : Held). record before { progress = over_with before.progress before.progress.session }) c.self.view_is)

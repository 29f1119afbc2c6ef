-- The next command of a client, and what its step adds.
use Rattle.std.proofs.Common.{◌≡◌, refl, sym, ap, ◌∙◌, ◌+◌, true, false, List, [], ◌∷◌, Option, Some, None, length}
use Rattle.std.specs.Prelude.{◌&&◌, is_none, is_some, not, option_map}
use Rattle.std.proofs.lemmas.Bool.{true≢false}
use Rattle.std.proofs.lemmas.Option.{same_Some}
use Rattle.mz_base.specs.declared.logs.CertEntry.{CertEntry}
use Rattle.keys.specs.declared.command.Command.{Command}
use Rattle.session_meaning.specs.Steps.{Stepped, step}
use Rattle.run_meaning.specs.Deeds.{awaited_by, certificate_after, certified_by, is_empty, lacks_learn, lacks_take, over, stepped, with_certificate}
use Rattle.run_meaning.specs.States.{Client, Progress}
use Rattle.core_steps.specs.Additions.{line_of_step}
use Rattle.core_steps.specs.Helds.{may_step, next_in, over_with, stepped_by}

-- ---- There is a next command

abbrev stepped_in : Progress → List Command → Option Stepped
stepped_in p rest = option_map (λ c. step p.session c p.taken) (next_in rest)

empty-in : (p : Progress) (rest : List Command) → stepped_in p rest ≡ None → is_empty rest ≡ true
empty-in p [] none = refl
empty-in p (c ∷ rest) none = absurd (true≢false (ap is_some none))

-- where nothing is made, no step may come
pub none-stepped : (p : Progress) → stepped_by p ≡ None → may_step p ≡ false
none-stepped p none =
    ap (λ b. not b && (is_none (awaited_by p.rest) && (not (lacks_learn p) && not (lacks_take p)))) (empty-in p p.rest none)

-- ---- What a step makes

module _ (client : Client) (made : Stepped) where
  line-in : (rest : List Command) → stepped_in client.progress rest ≡ Some made → Some made.line ≡ line_of_step client.progress rest
  line-in [] is = absurd (true≢false (ap is_some (sym is)))
  line-in (c ∷ rest) is = ap (λ (s : Stepped). Some s.line) (sym (same_Some _ _ is))

  -- its line
  pub line-stepped : stepped_by client.progress ≡ Some made → Some made.line ≡ line_of_step client.progress client.progress.rest
  line-stepped is = line-in client.progress.rest is

  certified-in : (rest : List Command) → stepped_in client.progress rest ≡ Some made → certified_by client rest ≡ certificate_after client.number (length client.log.lines + 1) made.session
  certified-in [] is = absurd (true≢false (ap is_some (sym is)))
  certified-in (c ∷ rest) is =
      ap (λ (s : Stepped). certificate_after client.number (length client.log.lines + 1) s.session) (same_Some _ _ is)

  -- its certificate
  pub certified-stepped : stepped_by client.progress ≡ Some made → certified_by client client.progress.rest ≡ certificate_after client.number (length client.log.lines + 1) made.session
  certified-stepped is = certified-in client.progress.rest is

  with-progress : (before : Client) (kept : Option CertEntry) → (with_certificate before kept).progress ≡ before.progress
  with-progress before None = refl
  with-progress before (Some entry) = refl

  moved-in : (rest : List Command) → stepped_in client.progress rest ≡ Some made → over_with client.progress made.session ≡ (stepped client rest).progress
  moved-in [] is = absurd (true≢false (ap is_some (sym is)))
  moved-in (c ∷ rest) is =
      let next = step client.progress.session c client.progress.taken in
      ap (λ (s : Stepped). over_with client.progress s.session) (sym (same_Some _ _ is))
      ∙ sym (with-progress (over client next.session next.line) (certified_by client client.progress.rest))

  -- how far the client is
  pub moved-stepped : stepped_by client.progress ≡ Some made → over_with client.progress made.session ≡ (stepped client client.progress.rest).progress
  moved-stepped is = moved-in client.progress.rest is

use Rattle.std.proofs.Common.{rules, ◌≡◌, ◌++◌, ◌+◌, ◌∙◌, drop, sym, subst}
use Rattle.std.proofs.lemmas.List.{at_drop_more}
use Rattle.std.specs.List.{flat_map}
use Rattle.std.specs.String.{string_bytes}
use Rattle.std.specs.Prelude.{Err}
use Rattle.report.specs.Printed.{Adds}
use Rattle.report.specs.Texts.{journal_text}
use Rattle.report.proofs.Passing.{fails_with_more}
use Rattle.report.proofs.journals.print_journals.Goals as goal

-- a journal that does not fit does not fit with those after it
pub returns-in_err-print_journal : goal.returns-in_err-print_journal
returns-in_err-print_journal c =
    let text = journal_text c.args.logs.now in
    let users = c.as_slice-user-items.result.now in
    let more = flat_map text (drop (c.loop-user.user-index + 1) users) in
    let step = at_drop_more (λ left. string_bytes c.loop-user.out ++ flat_map text left) users c.loop-user.user-index c.user-item.result c.loop-user-test.true in
    let joined : string_bytes c.loop-user.out ++ (text c.user-item.result ++ more) ≡ string_bytes c.args.out.now ++ flat_map text users = subst (λ user. string_bytes c.loop-user.out ++ (text user ++ more) ≡ string_bytes c.args.out.now ++ flat_map text users) (sym c.user-item.is) (sym step ∙ c.loop-user.invariant) in
    let fails = fails_with_more (string_bytes c.args.out.now) (flat_map text users) (string_bytes c.loop-user.out) (text c.user-item.result) more (string_bytes c.print_journal.new.out) (string_bytes c.print_journal.new.out) c.in_err-print_journal.field-0.0 joined c.in_err-print_journal.ensures in
    let all = subst (λ whole. Adds {A = Unit {0}} (string_bytes c.args.out.now) (flat_map text whole) (Err c.in_err-print_journal.field-0.0) (string_bytes c.print_journal.new.out)) c.as_slice-user-items.ensures fails in
    search (rules, all)

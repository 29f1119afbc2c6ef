use Rattle.std.proofs.Common.{rules, ◌≡◌, ◌++◌, ◌+◌, ◌∙◌, drop, sym, subst}
use Rattle.std.proofs.lemmas.List.{at_drop_more}
use Rattle.std.specs.List.{flat_map}
use Rattle.std.specs.String.{string_bytes}
use Rattle.std.specs.Prelude.{Err}
use Rattle.report.specs.Printed.{Adds}
use Rattle.report.specs.Texts.{client_text}
use Rattle.report.proofs.Passing.{fails_with_more}
use Rattle.report.proofs.clients.print_clients.Goals as goal

-- a client that does not fit does not fit with those after it
pub returns-in_err-print_client : goal.returns-in_err-print_client
returns-in_err-print_client c =
    let text = client_text c.args.logs.now in
    let clients = c.as_slice-client-items.result.now in
    let more = flat_map text (drop (c.loop-client.client-index + 1) clients) in
    let step = at_drop_more (λ left. string_bytes c.loop-client.out ++ flat_map text left) clients c.loop-client.client-index c.client-item.result c.loop-client-test.true in
    let joined : string_bytes c.loop-client.out ++ (text c.client-item.result ++ more) ≡ string_bytes c.args.out.now ++ flat_map text clients = subst (λ client. string_bytes c.loop-client.out ++ (text client ++ more) ≡ string_bytes c.args.out.now ++ flat_map text clients) (sym c.client-item.is) (sym step ∙ c.loop-client.invariant) in
    let fails = fails_with_more (string_bytes c.args.out.now) (flat_map text clients) (string_bytes c.loop-client.out) (text c.client-item.result) more (string_bytes c.print_client.new.out) (string_bytes c.print_client.new.out) c.in_err-print_client.field-0.0 joined c.in_err-print_client.ensures in
    let all = subst (λ whole. Adds {A = Unit {0}} (string_bytes c.args.out.now) (flat_map text whole) (Err c.in_err-print_client.field-0.0) (string_bytes c.print_client.new.out)) c.as_slice-client-items.ensures fails in
    search (rules, all)

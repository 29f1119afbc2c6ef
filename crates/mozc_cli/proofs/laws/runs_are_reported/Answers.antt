use Rattle.std.proofs.Common.{◌≡◌, true, subst}
use Rattle.std.specs.Prelude.{IsSomeAnd, IsTrue}
use Rattle.run_meaning.specs.Orders.{run, run_order}
use Rattle.run_meaning.specs.Plays.{is_complete}
use Rattle.scenario.proofs.AnswerSteps.{after-Ok}
use Rattle.world_files.specs.Worlds.{world}
use Rattle.mozc_cli.proofs.Reports.{limited-is, report-of, world-reads}
use Rattle.mozc_cli.specs.Settles.{output_of, run_output}
use Rattle.mozc_cli.proofs.laws.runs_are_reported.Goals as goal

pub returns : goal.returns
returns c files name output is =
    let (given, read, made) = after-Ok (world files name) run_output output is in
    let text = limited-is (output_of (run given).logs) output made in
    let played = c.run_is_played.ensures given in
    let complete : is_complete given (run given) ≡ true = subst (λ found. IsSomeAnd found (λ state. IsTrue (is_complete given state))) played (c.run_is_complete.ensures given (world-reads files name given read)) in
    record {
      given = given;
      read = read;
      report = report-of given (run_order given) (run given) output played complete text c.events_are_noted.ensures.all c.the_last_take_is_used.ensures.last c.jobs_are_none_older.ensures.never_fall c.journals_are_none_older.ensures.grow;
    }

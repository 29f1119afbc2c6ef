use Rattle.std.proofs.Common.{◌∙◌, Some, ap}
use Rattle.run_meaning.specs.States.{start}
use Rattle.scenario.proofs.AnswerSteps.{after-Ok}
use Rattle.world_files.specs.Worlds.{replay}
use Rattle.world_files.specs.declared.world.Replay.{Replay}
use Rattle.run_meaning.specs.States.{State}
use Rattle.mozc_cli.proofs.Reports.{finished-is, limited-is, lines-played, report-of}
use Rattle.mozc_cli.specs.Replays.{or_unfinished, played_lines, replayed_in}
use Rattle.mozc_cli.specs.Reports.{events_in, schedule_in}
use Rattle.mozc_cli.specs.Settles.{limited, output_of, replay_output}
use Rattle.mozc_cli.proofs.laws.replays_are_reported.Goals as goal

pub returns : goal.returns
unfolding replayed_in
returns c files name schedule output is =
    let (given, read, made) = after-Ok (replay files name schedule) (λ (given : Replay). replay_output given.world given.schedule) output is in
    let (last, replayed, written) = after-Ok (replayed_in given.world given.schedule) (λ (state : State). limited (output_of state.logs)) output made in
    let (state, played, end) = after-Ok (played_lines given.world (start given.world) (schedule_in given).events) (or_unfinished given.world (schedule_in given)) last replayed in
    let finished = finished-is given.world (schedule_in given) state last end in
    let all = lines-played given.world (start given.world) state (schedule_in given).events played ∙ ap (λ s. Some s) finished.same in
    record {
      given = given;
      read = read;
      reads = finished.reads;
      report = report-of given.world (events_in (schedule_in given)) last output all finished.complete (limited-is (output_of last.logs) output written) c.events_are_noted.ensures.all c.the_last_take_is_used.ensures.last c.jobs_are_none_older.ensures.never_fall c.journals_are_none_older.ensures.grow;
    }

use Rattle.scenario.specs.Manifests.{manifest_of, nothing_told}
use Rattle.scenario.proofs.LineLaws.{each-read, first-refused}
use Rattle.scenario.proofs.laws.manifests_go_line_by_line.Goals as goal

pub returns : goal.returns
unfolding manifest_of
returns c = record {
  ok = λ lines manifest is. each-read nothing_told 1 lines manifest is;
  err = λ lines refused is. first-refused nothing_told 1 lines refused is;
}

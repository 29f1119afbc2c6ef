use Rattle.std.proofs.Common.{◌≡◌, ◌≤◌, length, ap, arith}
use Rattle.world_files.proofs.SetFiles.{few-filter}
use Rattle.world_files.proofs.query.set_files.Goals as goal

pub returns-clause-few : goal.returns-clause-few
returns-clause-few g c =
    let count : length c.in_ok-found.found.files ≤ length c.as_slice-2.result.now = c.in_ok-found.ensures.count in
    let lent : length c.as_slice-2.result.now ≡ length c.in_ok-lines.lines.items = ap length c.as_slice-2.ensures.value in
    let own : length c.in_ok-lines.lines.items ≤ length c.into_vec.result.items = rw c.in_ok-lines.ensures (few-filter _ c.into_vec.result.items) in
    let all : length c.into_vec.result.items ≡ length c.in_ok-start.start.manifest.files = ap length c.into_vec.ensures in
    omega (arith, count, lent, own, all, c.in_ok-start.ensures.few)

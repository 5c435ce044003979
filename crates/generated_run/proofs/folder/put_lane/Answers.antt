use Rattle.std.proofs.Common.{◌≡◌, length, ap, arith, rules}
use Rattle.generated_run.specs.Generated.{lane_records}
use Rattle.generated_run.proofs.Counting.{lane_length}
use Rattle.generated_run.proofs.folder.put_lane.Goals as goal

pub overflow_cast-count : goal.overflow_cast-count
overflow_cast-count g c =
    let long : c.len-count.result ≡ length c.in_ok-records.records.items = search rules in
    let is : length c.in_ok-records.records.items ≡ length (lane_records c.args.rounds c.args.lane) = ap length c.in_ok-records.ensures in
    let most = (lane_length c.args.rounds c.args.lane).1 in
    let few = c.requires.rounds in
    omega (arith, long, is, most, few)

use Rattle.std.proofs.Common.{arith}
use Rattle.generated_run.proofs.Counting.{lane_accesses}
use Rattle.generated_run.proofs.counts.accesses.Goals as goal

pub returns : goal.returns
returns c =
    let n = c.args.rounds in
    let same = c.from.ensures in
    omega (arith, lane_accesses n 0, lane_accesses n 1, lane_accesses n 2, lane_accesses n 3, lane_accesses n 4, lane_accesses n 5, lane_accesses n 6, lane_accesses n 7)

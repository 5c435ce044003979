use Rattle.std.proofs.Common.{◌≤◌, length, vec_capacity}
use Rattle.stride_summary.proofs.Cuts.{IsCutting}
use Rattle.stride_summary.proofs.cutting.push_runs.Given as goal

abbrev pub invariant-rest : goal.invariant-rest
invariant-rest l = record {
  cutting : IsCutting l.key l.addresses l.rest l.initial.runs.items l.runs.items;
  capacity : vec_capacity l.initial.runs ≤ vec_capacity l.runs;
}

abbrev pub decreases-rest : goal.decreases-rest
decreases-rest l = length l.rest

use Rattle.std.proofs.Common.{◌+◌, ◌≤◌, take, drop, vec_len, vec_capacity, sum_by}
use Rattle.stride_summary.specs.Stretches.{HaveRuns, needed_of}
use Rattle.stride_summary.proofs.Emptying.{EmptiedUpTo}
use Rattle.stride_summary.proofs.summary.empty_all.Given as goal

abbrev pub invariant-loop-stretch : goal.invariant-loop-stretch
invariant-loop-stretch l = record {
  emptied : EmptiedUpTo l.stretch-index l.initial.stretch-items l.stretch-items;
  have : HaveRuns (take l.stretch-index l.initial.stretch-items) l.runs.items;
  room : vec_len l.runs + sum_by needed_of (drop l.stretch-index l.initial.stretch-items) ≤ sum_by needed_of l.initial.stretch-items;
  capacity : vec_capacity l.fn.runs ≤ vec_capacity l.runs;
}

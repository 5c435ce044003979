use Rattle.std.proofs.Common.{◌≡◌, ◌<◌, ◌≤◌, ◌-◌, ◌^◌, take}
use Rattle.pair_compare.specs.Work.{total_runs}
use Rattle.pair_compare.proofs.team.share.Given as goal

abbrev pub invariant-loop-place : goal.invariant-loop-place
invariant-loop-place l = record {
  counted : total_runs l.tasks < 2 ^ 64 → l.runs ≡ total_runs (take l.place l.tasks);
  before : total_runs l.tasks < 2 ^ 64 → total_runs (take (l.place - 1) l.tasks) ≤ l.most;
}

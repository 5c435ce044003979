use Rattle.std.proofs.Common.{◌≡◌, ◌<◌, ◌^◌, take}
use Rattle.pair_compare.specs.Work.{total_runs}
use Rattle.pair_compare.proofs.team.runs_in.Given as goal

abbrev pub invariant-loop-task : goal.invariant-loop-task
invariant-loop-task l = total_runs l.tasks < 2 ^ 64 → l.runs ≡ total_runs (take l.task-index l.tasks)

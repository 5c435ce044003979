use Rattle.std.proofs.Common.{◌≡◌, ◌-◌, ◌≤◌}
use Rattle.log_walk.specs.LogSoFar.{LogSoFar}
use Rattle.log_walk.specs.Rules.{log_task_of}
use Rattle.log_walk.specs.Unread.{unread}
use Rattle.log_walk.proofs.check.check_log.Given as goal

abbrev pub invariant-windows : goal.invariant-windows
invariant-windows g l = record {
  so : LogSoFar l.format (g.T.File.rest l.fn.file) (log_task_of l.task) l.opened l.fn.label l.state l.walk (unread l.window (g.T.File.rest l.file)) l.fn.found.items l.found.items l.index;
  within : l.index ≤ l.task.records;
  no_fault : g.T.File.faults l.file ≡ g.T.File.faults l.fn.file;
}

abbrev pub decreases-windows : goal.decreases-windows
decreases-windows g l = l.task.records - l.index

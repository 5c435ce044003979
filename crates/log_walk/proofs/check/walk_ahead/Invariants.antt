use Rattle.std.proofs.Common.{◌≡◌, ◌+◌, ◌-◌, ◌*◌, ◌≤◌, ℕ, List, length, drop}
use Rattle.std.specs.Prelude.{Option}
use Rattle.race_model.specs.Label.{Triple}
use Rattle.log_segment.specs.declared.segment.Segment.{Segment}
use Rattle.log_walk.specs.LogSoFar.{LogSoFar}
use Rattle.log_walk.specs.Rules.{log_task_of}
use Rattle.log_walk.specs.Unread.{unread}
use Rattle.log_walk.proofs.check.walk_ahead.Given as goal

abbrev pub invariant-records : goal.invariant-records
invariant-records l = record {
  so : (bytes rest : Option (List ℕ)) (opened : ℕ) (label : List Triple) (old : List Segment) → LogSoFar l.format bytes (log_task_of l.task) opened label l.fn.state l.fn.walk (unread l.ahead rest) old l.fn.found.items l.before
      → LogSoFar l.format bytes (log_task_of l.task) opened label l.state l.walk (unread l.rest rest) old l.found.items l.after;
  rest : l.rest ≡ drop (24 * (l.after - l.before)) l.ahead;
  low : l.before ≤ l.after;
  high : l.after ≤ l.task.records;
  there : length l.rest + 24 * (l.after - l.before) ≡ length l.ahead;
}

abbrev pub decreases-records : goal.decreases-records
decreases-records l = l.task.records - l.after

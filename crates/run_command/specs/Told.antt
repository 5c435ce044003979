-- How a stop is told.
use Rattle.std.specs.Prelude.{ℕ, Option, Some, None}
use Rattle.kernel_model.specs.declared.stop.StopWhy.{StopWhy}
use Rattle.kernel_model.specs.declared.stop.StopWhy.TheVariants as reason
use Rattle.lane_runner.specs.declared.stop.Stop.{Stop}
use Rattle.lane_runner.specs.declared.stop.Stop.TheVariants.{DivZero, Index, LogFull, Tasks, Trouble}

-- the line by which a stop is told, and why the task stops; trouble isn't told so
abbrev pub told_stop : Stop → Option (ℕ × StopWhy)
told_stop (DivZero line) = Some (line, reason.DivZero)
told_stop (Index line) = Some (line, reason.Index)
told_stop (LogFull line) = Some (line, reason.LogFull)
told_stop (Tasks line) = Some (line, reason.Tasks)
told_stop (Trouble trouble) = None

-- How a stop is told.
use Rattle.std.specs.Prelude.{ℕ, List, codes}
use Rattle.kernel_model.specs.declared.stop.StopWhy.{StopWhy}
use Rattle.kernel_model.specs.declared.stop.StopWhy.TheVariants.{DivZero, Index, LogFull, Tasks}

-- its name
abbrev pub stop_name : StopWhy → List ℕ
stop_name DivZero = codes "DivZero"
stop_name Index = codes "Index"
stop_name LogFull = codes "LogFull"
stop_name Tasks = codes "Tasks"

use Rattle.certainty_model.proofs.CertainRuns.{of_execution, never_stops}
use Rattle.certainty_model.proofs.certainty.certain_kernels_never_stop.Goals as goal

pub returns : goal.returns
returns c = λ program run tasks address words lawful certain execution. never_stops program lawful run certain tasks (of_execution program tasks address words execution)
